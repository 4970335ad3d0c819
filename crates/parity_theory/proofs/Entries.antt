-- Entries: what stands in one list where a line stands in another.
use Rattle.std.proofs.Common.{◌≡◌, ℕ, suc, List, [], ◌∷◌, ◌++◌, length, map, refl, sym, ap, ◌∙◌, subst, inl, inr, arith, ◌⊎◌}
use Rattle.vector_spaces.proofs.Distinct.{IsDistinct}
use Rattle.vector_spaces.proofs.Members.{In}

-- m stands in M where p stands in cs
abbrev pub At : {X : Type 0} → ℕ → X → List ℕ → List X → Type 0
At m p [] cs = ⊥
At m p (l ∷ M) [] = ⊥
At m p (l ∷ M) (c ∷ cs) = ((m ≡ l) × (p ≡ c)) ⊎ At m p M cs

-- both lists split at m
pub at_split : {X : Type 0} (m : ℕ) (p : X) (M : List ℕ) (cs : List X) → At m p M cs → (P : List ℕ) × (Q : List ℕ) × (c : List X) × (d : List X) × (M ≡ P ++ m ∷ Q) × (cs ≡ c ++ p ∷ d) × (length c ≡ length P)
at_split m p [] cs h = absurd h
at_split m p (l ∷ M) [] h = absurd h
at_split m p (l ∷ M) (e ∷ cs) (inl h) = ([], M, [], cs, ap (λ x. x ∷ M) (sym h.0), ap (λ x. x ∷ cs) (sym h.1), refl)
at_split m p (l ∷ M) (e ∷ cs) (inr h) = let r = at_split m p M cs h in (l ∷ r.0, r.1, e ∷ r.2, r.3, ap (λ t. l ∷ t) r.4, ap (λ t. e ∷ t) r.5, ap suc r.6)

-- a list as long as P ++ m ∷ Q splits alike
pub split_alike : {X : Type 0} (P : List ℕ) (m : ℕ) (Q : List ℕ) (cs : List X) → length cs ≡ length (P ++ m ∷ Q) → (c : List X) × (p : X) × (d : List X) × (cs ≡ c ++ p ∷ d) × (length c ≡ length P)
split_alike [] m Q [] e = absurd (omega arith)
split_alike [] m Q (p ∷ cs) e = ([], p, cs, refl, refl)
split_alike (l ∷ P) m Q [] e = absurd (omega arith)
split_alike (l ∷ P) m Q (p ∷ cs) e = let r = split_alike P m Q cs (omega arith) in (p ∷ r.0, r.1, r.2, ap (λ t. p ∷ t) r.3, ap suc r.4)

-- m is a member of M, and where M has no member twice, p is the only entry at m
pub at_in : {X : Type 0} (m : ℕ) (p : X) (M : List ℕ) (cs : List X) → At m p M cs → In m M
at_in m p [] cs h = absurd h
at_in m p (l ∷ M) [] h = absurd h
at_in m p (l ∷ M) (c ∷ cs) (inl h) = inl h.0
at_in m p (l ∷ M) (c ∷ cs) (inr h) = inr (at_in m p M cs h)

pub at_middle : {X : Type 0} (P : List ℕ) (m : ℕ) (Q : List ℕ) (c : List X) (p : X) (d : List X) → length c ≡ length P → At m p (P ++ m ∷ Q) (c ++ p ∷ d)
at_middle [] m Q [] p d e = inl (refl, refl)
at_middle [] m Q (x ∷ c) p d e = absurd (omega arith)
at_middle (l ∷ P) m Q [] p d e = absurd (omega arith)
at_middle (l ∷ P) m Q (x ∷ c) p d e = inr (at_middle P m Q c p d (omega arith))

pub at_unique : {X : Type 0} (m : ℕ) (p q : X) (M : List ℕ) (cs : List X) → IsDistinct M → At m p M cs → At m q M cs → p ≡ q
at_unique m p q [] cs d h k = absurd h
at_unique m p q (l ∷ M) [] d h k = absurd h
at_unique m p q (l ∷ M) (c ∷ cs) d (inl h) (inl k) = h.1 ∙ sym k.1
at_unique m p q (l ∷ M) (c ∷ cs) d (inl h) (inr k) = absurd (d.0 (subst (λ t. In t M) h.0 (at_in m q M cs k)))
at_unique m p q (l ∷ M) (c ∷ cs) d (inr h) (inl k) = absurd (d.0 (subst (λ t. In t M) k.0 (at_in m p M cs h)))
at_unique m p q (l ∷ M) (c ∷ cs) d (inr h) (inr k) = at_unique m p q M cs d.1 h k

pub map_at : {X Y : Type 0} (g : X → Y) (m : ℕ) (p : X) (M : List ℕ) (cs : List X) → At m p M cs → At m (g p) M (map g cs)
map_at g m p [] cs h = absurd h
map_at g m p (l ∷ M) [] h = absurd h
map_at g m p (l ∷ M) (c ∷ cs) (inl h) = inl (h.0, ap g h.1)
map_at g m p (l ∷ M) (c ∷ cs) (inr h) = inr (map_at g m p M cs h)

-- two lists as long as M split alike at a line of M
pub aligned : {X : Type 0} (M : List ℕ) (m : ℕ) (p q : X) (cs ds : List X) → IsDistinct M → At m p M cs → At m q M ds → length ds ≡ length M →
    (P : List ℕ) × (Q : List ℕ) × (c : List X) × (d : List X) × (c' : List X) × (d' : List X) × (M ≡ P ++ m ∷ Q) × (cs ≡ c ++ p ∷ d) × (length c ≡ length P) × (ds ≡ c' ++ q ∷ d') × (length c' ≡ length P)
aligned M m p q cs ds n a b e =
    let r = at_split m p M cs a in
    let t = split_alike r.0 m r.1 ds (e ∙ ap length r.4) in
    let k : At m t.1 M ds = subst (λ x. At m t.1 x ds) (sym r.4) (subst (λ x. At m t.1 (r.0 ++ m ∷ r.1) x) (sym t.3) (at_middle r.0 m r.1 t.0 t.1 t.2 t.4)) in
    let u : t.1 ≡ q = at_unique m t.1 q M ds n k b in
    (r.0, r.1, r.2, r.3, t.0, t.2, r.4, r.5, r.6, t.3 ∙ ap (λ x. t.0 ++ x ∷ t.2) u, t.4)
