-- Members and order of lists that are gathered.
use Rattle.std.proofs.Common.{ℕ, zero, suc, ◌<◌, inl, inr, List, [], ◌∷◌, ◌++◌, Bool, true, false, IsTrue, refl, sym, subst, arith}
use Rattle.std.specs.Prelude.{if◌then◌else◌, ⊤}
use Rattle.std.specs.List.{AllPairs}
use Rattle.std.proofs.lemmas.Bool.{cases_order}
use Rattle.std.proofs.lemmas.List.Kept.{AllPairs-cons}
use Rattle.vector_spaces.proofs.Members.{In, all-In, In-append, In-append_left, In-append_right}
use Rattle.graph_core.specs.Gathered.{gathered}

pub In-gathered : {X : Type 0} (f : ℕ → List X) (n k : ℕ) (x : X) → k < n → In x (f k) → In x (gathered f n)
In-gathered f zero k x l i = absurd (omega arith)
In-gathered f (suc n) k x l i = elim (cases_order k n) [
  | inl e ↦ In-append_right x (gathered f n) (f n) (subst (λ z. In x (f z)) e i)
  | inr r ↦ elim r [ inl b ↦ In-append_left x (gathered f n) (f n) (In-gathered f n k x b i) | inr b ↦ absurd (omega arith) ]
]

pub gathered-In : {X : Type 0} (f : ℕ → List X) (n : ℕ) (x : X) → In x (gathered f n) → (k : ℕ) × (k < n) × In x (f k)
gathered-In f zero x i = absurd i
gathered-In f (suc n) x i = elim (In-append x (gathered f n) (f n) i) [
  | inl j ↦ let r = gathered-In f n x j in (r.0, omega (arith, r.1), r.2)
  | inr j ↦ (n, omega arith, j)
]

-- R holds of each member and each later one
abbrev pub Pairwise : {X : Type 0} → (X → X → Type 0) → List X → Type 0
Pairwise R [] = ⊤
Pairwise {X} R (x ∷ xs) = ((y : X) → In y xs → R x y) × Pairwise R xs

pub all_pairs : {X : Type 0} (R : X → X → Type 0) (xs : List X) → Pairwise R xs → AllPairs R xs
all_pairs R [] h = λ i j d l m. absurd (omega arith)
all_pairs R (x ∷ xs) h = AllPairs-cons R x xs (all-In (R x) xs h.0) (all_pairs R xs h.1)

pub Pairwise-append : {X : Type 0} (R : X → X → Type 0) (xs ys : List X) → Pairwise R xs → Pairwise R ys →
    ((x y : X) → In x xs → In y ys → R x y) → Pairwise R (xs ++ ys)
Pairwise-append R [] ys h k a = k
Pairwise-append R (x ∷ xs) ys h k a = (
  λ y i. elim (In-append y xs ys i) [ inl j ↦ h.0 y j | inr j ↦ a x y (inl refl) j ],
  Pairwise-append R xs ys h.1 k (λ z y i j. a z y (inr i) j),
)

pub Pairwise-gathered : {X : Type 0} (R : X → X → Type 0) (f : ℕ → List X) (n : ℕ) → ((k : ℕ) → Pairwise R (f k)) →
    ((j k : ℕ) (x y : X) → j < k → In x (f j) → In y (f k) → R x y) → Pairwise R (gathered f n)
Pairwise-gathered R f zero h a = tt
Pairwise-gathered R f (suc n) h a = Pairwise-append R (gathered f n) (f n) (Pairwise-gathered R f n h a) (h n)
    (λ x y i j. let r = gathered-In f n x i in a r.0 n x y r.1 r.2 j)

-- a list that is there only where b holds
pub In_if-from : {X : Type 0} (b : Bool) (xs : List X) (x : X) → In x (if b then xs else []) → IsTrue b × In x xs
In_if-from true xs x i = (refl, i)
In_if-from false xs x i = absurd i

pub In-if : {X : Type 0} (b : Bool) (xs : List X) (x : X) → IsTrue b → In x xs → In x (if b then xs else [])
In-if b xs x t i = subst (λ c. In x (if c then xs else [])) (sym t) i

pub Pairwise-if : {X : Type 0} (R : X → X → Type 0) (b : Bool) (xs : List X) → Pairwise R xs → Pairwise R (if b then xs else [])
Pairwise-if R true xs h = h
Pairwise-if R false xs h = tt
