-- Increasing lists: they are told by their members, and a number is taken out or put in at its place.
use Rattle.std.proofs.Common.{◌≡◌, ◌≢◌, ℕ, suc, ◌+◌, ◌<◌, ◌⊎◌, inl, inr, List, [], ◌∷◌, ◌++◌, length, get_or, take, drop, refl, sym, ap, ap₂, ◌∙◌, subst, arith}
use Rattle.std.specs.Prelude.{⊤, ◌↔◌}
use Rattle.std.specs.List.{Contains}
use Rattle.std.specs.List.Sorted.{IsStrictlyIncreasing}
use Rattle.std.proofs.lemmas.List.{take-append-drop, drop_more}
use Rattle.std.proofs.lemmas.List.Kept.{AllPairs-from_increasing}
use Rattle.vector_spaces.proofs.Members.{In, contains-In, In-contains}
use Rattle.vector_spaces.proofs.Middles.{middle_in, in_others}
use Rattle.matching_state.proofs.StepSets.{Among}

-- each member is below those behind it
abbrev pub Rises : List ℕ → Type 0
Rises [] = ⊤
Rises (x ∷ xs) = ((l : ℕ) → In l xs → x < l) × Rises xs

pub rises : (xs : List ℕ) → IsStrictlyIncreasing xs → Rises xs
rises [] h = tt
rises (x ∷ xs) h =
    let pairs = AllPairs-from_increasing (x ∷ xs) h in (
      λ l i. let c = contains-In xs l i in let k = pairs 0 (suc c.0) l (omega arith) (let b = c.1 in omega arith) in let e = c.2 in omega arith,
      rises xs (λ k l. pairs (suc k) (suc (k + 1)) 0 (omega arith) (omega arith)),
    )

not_below_itself : (x : ℕ) → ¬ (x < x)
not_below_itself x l = absurd (omega arith)

-- the first of both is the same
first_same : (x y : ℕ) (xs ys : List ℕ) → Rises (x ∷ xs) → Rises (y ∷ ys) → In x (y ∷ ys) → In y (x ∷ xs) → x ≡ y
first_same x y xs ys h k (inl e) j = e
first_same x y xs ys h k (inr i) (inl e) = sym e
first_same x y xs ys h k (inr i) (inr j) = let a = h.0 y j in let b = k.0 x i in absurd (omega arith)

rest_among : (x y : ℕ) (xs ys : List ℕ) → x ≡ y → Rises (x ∷ xs) → Among (x ∷ xs) (y ∷ ys) → Among xs ys
rest_among x y xs ys e h a l i = elim (a l (inr i)) [
  | inl q ↦ absurd (not_below_itself x (subst (λ t. x < t) (q ∙ sym e) (h.0 l i)))
  | inr j ↦ j
]

pub same_members : (xs ys : List ℕ) → Rises xs → Rises ys → Among xs ys → Among ys xs → xs ≡ ys
same_members [] [] h k a b = refl
same_members [] (y ∷ ys) h k a b = absurd (b y (inl refl))
same_members (x ∷ xs) [] h k a b = absurd (a x (inl refl))
same_members (x ∷ xs) (y ∷ ys) h k a b =
    let e : x ≡ y = first_same x y xs ys h k (a x (inl refl)) (b y (inl refl)) in
    ap₂ (λ z zs. z ∷ zs) e (same_members xs ys h.1 k.1 (rest_among x y xs ys e h a) (rest_among y x ys xs (sym e) k b))

-- without the member in the middle
rises_around : (A : List ℕ) (m : ℕ) (B : List ℕ) → Rises (A ++ m ∷ B) → Rises (A ++ B)
rises_around [] m B h = h.1
rises_around (a ∷ A) m B h = ((λ l i. h.0 l (middle_in A m B l (inr i))), rises_around A m B h.1)

apart_around : (A : List ℕ) (m : ℕ) (B : List ℕ) → Rises (A ++ m ∷ B) → ¬ (In m (A ++ B))
apart_around [] m B h i = not_below_itself m (h.0 m i)
apart_around (a ∷ A) m B h (inl e) = not_below_itself m (subst (λ t. t < m) (sym e) (h.0 m (middle_in A m B m (inl refl))))
apart_around (a ∷ A) m B h (inr i) = apart_around A m B h.1 i

-- K has the members of M but m
pub taken_out : (M K A B : List ℕ) (m : ℕ) → M ≡ A ++ m ∷ B → IsStrictlyIncreasing M → IsStrictlyIncreasing K →
    ((l : ℕ) → Contains K l ↔ (Contains M l × (l ≢ m))) → K ≡ A ++ B
taken_out M K A B m e h k c =
    let r : Rises (A ++ m ∷ B) = subst Rises e (rises M h) in
    same_members K (A ++ B) (rises K k) (rises_around A m B r)
    (λ l i. let d = (c l).0 (contains-In K l i) in in_others A m B l (subst (In l) e (In-contains M l d.0)) d.1)
    (λ l i. In-contains K l ((c l).1 (contains-In M l (subst (In l) (sym e) (middle_in A m B l (inr i))), λ q. apart_around A m B r (subst (λ t. In t (A ++ B)) q i))))

-- N has the members of K, and m
pub put_in : (N K A B : List ℕ) (m : ℕ) → N ≡ A ++ m ∷ B → IsStrictlyIncreasing N → IsStrictlyIncreasing K → ¬ (Contains K m) →
    ((l : ℕ) → Contains N l ↔ (Contains K l ⊎ (l ≡ m))) → K ≡ A ++ B
put_in N K A B m e h k n c =
    taken_out N K A B m e h k (λ l. (
      λ d. ((c l).1 (inl d), λ q. n (subst (Contains K) q d)),
      λ d. elim ((c l).0 d.0) [ inl i ↦ i | inr q ↦ absurd (d.1 q) ],
    ))

-- a list, around the member at an index
pub around : (M : List ℕ) (i m : ℕ) → i < length M → get_or M i 0 ≡ m → M ≡ take i M ++ m ∷ drop (i + 1) M
around M i m l e =
    sym (take-append-drop i M) ∙ ap (λ xs. take i M ++ xs) (drop_more M i 0 l ∙ ap (λ x. x ∷ drop (i + 1) M) e)
