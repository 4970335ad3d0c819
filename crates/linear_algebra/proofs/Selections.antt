-- The rank is the length of some independent selection, and no independent selection is longer.
use Rattle.std.proofs.Common.{◌≡◌, ℕ, ◌≤◌, ◌⊎◌, inl, inr, List, [], ◌∷◌, length, map, filter, refl, sym, ap, ◌∙◌, subst, arith, Bool, true, false, cond}
use Rattle.std.proofs.Math.Nat.{le-max_left, le-max_right}
use Rattle.std.proofs.lemmas.Bool.{true≢false, cases_Bool, cases_lt}
use Rattle.vector_spaces.proofs.Members.{In, In-append, In-append_left, In-append_right, In-map, In_map-from}
use Rattle.vector_spaces.proofs.Sublists.{IsSublist, sub_nil}
use Rattle.linear_algebra.specs.Scalars.{Scalars}
use Rattle.linear_algebra.specs.Spans.{IsIndependent}
use Rattle.linear_algebra.specs.Ranks.{is_independent, selections, greatest, rank}
use Rattle.linear_algebra.proofs.Deciding.{is_independent-decides}

-- the selections are the sublists
pub In-selections : {X : Type 0} (us vs : List X) → IsSublist us vs → In us (selections vs)
unfolding selections
In-selections us [] h = inl h
In-selections us (v ∷ vs) (inl h) = In-append_right us (map (λ xs. v ∷ xs) (selections vs)) (selections vs) (In-selections us vs h)
In-selections us (v ∷ vs) (inr h) = In-append_left us (map (λ xs. v ∷ xs) (selections vs)) (selections vs)
    (subst (λ t. In t (map (λ xs. v ∷ xs) (selections vs))) (sym h.1) (In-map (λ xs. v ∷ xs) h.0 (selections vs) (In-selections h.0 vs h.2)))

pub In_selections-from : {X : Type 0} (us vs : List X) → In us (selections vs) → IsSublist us vs
unfolding selections
In_selections-from us [] (inl e) = e
In_selections-from us [] (inr i) = absurd i
In_selections-from us (v ∷ vs) i = elim (In-append us (map (λ xs. v ∷ xs) (selections vs)) (selections vs) i) [
  | inl j ↦ (let r = In_map-from (λ xs. v ∷ xs) us (selections vs) j in inr (r.0, r.2, In_selections-from r.0 vs r.1))
  | inr j ↦ inl (In_selections-from us vs j)
]

In-filter : {X : Type 0} (p : X → Bool) (xs : List X) (x : X) → In x xs → p x ≡ true → In x (filter p xs)
In-filter p [] x i h = i
In-filter p (y ∷ xs) x i h = go (cases_Bool (p y)) i (λ j. In-filter p xs x j h)
  where
    go : (p y ≡ true) ⊎ (p y ≡ false) → In x (y ∷ xs) → (In x xs → In x (filter p xs)) → In x (cond (p y) (y ∷ filter p xs) (filter p xs))
    go (inl e) (inl q) ih = subst (λ b. In x (cond b (y ∷ filter p xs) (filter p xs))) (sym e) (inl q)
    go (inl e) (inr j) ih = subst (λ b. In x (cond b (y ∷ filter p xs) (filter p xs))) (sym e) (inr (ih j))
    go (inr e) (inl q) ih = absurd (true≢false (sym h ∙ ap p q ∙ e))
    go (inr e) (inr j) ih = subst (λ b. In x (cond b (y ∷ filter p xs) (filter p xs))) (sym e) (ih j)

In_filter-from : {X : Type 0} (p : X → Bool) (xs : List X) (x : X) → In x (filter p xs) → In x xs × (p x ≡ true)
In_filter-from p [] x i = absurd i
In_filter-from p (y ∷ xs) x i = go (cases_Bool (p y)) (In_filter-from p xs x)
  where
    go : (p y ≡ true) ⊎ (p y ≡ false) → (In x (filter p xs) → In x xs × (p x ≡ true)) → In x (y ∷ xs) × (p x ≡ true)
    go (inl e) ih = elim (subst (λ b. In x (cond b (y ∷ filter p xs) (filter p xs))) e i) [ inl q ↦ (inl q, ap p q ∙ e) | inr j ↦ (let r = ih j in (inr r.0, r.1)) ]
    go (inr e) ih = let r = ih (subst (λ b. In x (cond b (y ∷ filter p xs) (filter p xs))) e i) in (inr r.0, r.1)

le-greatest : (ns : List ℕ) (n : ℕ) → In n ns → n ≤ greatest ns
le-greatest [] n i = absurd i
le-greatest (m ∷ ns) n (inl e) = let h = le-max_left m (greatest ns) in omega arith
le-greatest (m ∷ ns) n (inr i) = let h = le-max_right m (greatest ns) in let k = le-greatest ns n i in omega arith

-- of a list that isn't empty
greatest_reached : (m : ℕ) (ns : List ℕ) → In m ns → (n : ℕ) × In n ns × (n ≡ greatest ns)
greatest_reached m [] i = absurd i
greatest_reached m (n ∷ []) i = (n, inl refl, omega arith)
greatest_reached m (n ∷ k ∷ ns) i =
    let r = greatest_reached k (k ∷ ns) (inl refl) in
    let e = r.2 in
    elim (cases_lt n (greatest (k ∷ ns))) [ inl h ↦ (r.0, inr r.1, omega arith) | inr h ↦ (n, inl refl, omega arith) ]

module _ (S : Scalars) (d : ℕ) where
  pub length_le-rank : (us vs : List (List ℕ)) → IsSublist us vs → IsIndependent S d us → length us ≤ rank S d vs
  unfolding rank
  length_le-rank us vs h i = le-greatest (map length (filter (is_independent S d) (selections vs))) (length us)
      (In-map length us (filter (is_independent S d) (selections vs)) (In-filter (is_independent S d) (selections vs) us (In-selections us vs h) ((is_independent-decides S d us).1 i)))

  pub rank_reached : (vs : List (List ℕ)) → (us : List (List ℕ)) × IsSublist us vs × IsIndependent S d us × (length us ≡ rank S d vs)
  unfolding rank
  rank_reached vs =
      let kept : List (List (List ℕ)) = filter (is_independent S d) (selections vs) in
      let none : In [] kept = In-filter (is_independent S d) (selections vs) [] (In-selections [] vs (sub_nil vs)) ((is_independent-decides S d []).1 independent_nil) in
      let r = greatest_reached 0 (map length kept) (In-map length [] kept none) in
      let s = In_map-from length r.0 kept r.1 in
      let t = In_filter-from (is_independent S d) (selections vs) s.0 s.1 in
      (s.0, In_selections-from s.0 vs t.0, (is_independent-decides S d s.0).0 t.1, sym s.2 ∙ r.2)
    where
      independent_nil : IsIndependent S d []
      independent_nil [] c = refl
      independent_nil (x ∷ cs) c = absurd (let e = c.one_each.length_is in omega arith)
