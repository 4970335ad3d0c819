-- Numbers in a row, and the members of lists that are filtered or mapped.
use Rattle.std.proofs.Math.Decide.{ℕ_discrete}
use Rattle.std.proofs.Common.{◌≡◌, ℕ, zero, suc, ◌+◌, ◌≤◌, ◌<◌, ◌⊎◌, inl, inr, List, [], ◌∷◌, length, get_or, map, refl, sym, ap, ◌∙◌, subst, arith, Bool, true, false, cond}
use Rattle.std.specs.List.{filter}
use Rattle.std.proofs.lemmas.Bool.{cases_Bool, true≢false}
use Rattle.vector_spaces.proofs.Members.{In, In_map-from}
use Rattle.vector_spaces.proofs.Distinct.{IsDistinct}
use Rattle.graph_theory.specs.Numbers.{numbers_from}

pub numbers_in : (k c x : ℕ) → k ≤ x → x < k + c → In x (numbers_from k c)
numbers_in k zero x l h = absurd (omega arith)
numbers_in k (suc c) x l h = elim (ℕ_discrete x k) [
  | yes e ↦ inl e
  | no n ↦ inr
      (numbers_in (suc k) c x (let q = n in omega arith) (omega arith))
]

pub in_numbers : (k c x : ℕ) → In x (numbers_from k c) → (k ≤ x) × (x < k + c)
in_numbers k zero x i = absurd i
in_numbers k (suc c) x (inl e) = (omega arith, omega arith)
in_numbers k (suc c) x (inr i) = let r = in_numbers (suc k) c x i in let a = r.0 in let b = r.1 in (omega arith, omega arith)

pub numbers_length : (k c : ℕ) → length (numbers_from k c) ≡ c
numbers_length k zero = refl
numbers_length k (suc c) = ap suc (numbers_length (suc k) c)

pub numbers_at : (k c i d : ℕ) → i < c → get_or (numbers_from k c) i d ≡ k + i
numbers_at k zero i d l = absurd (omega arith)
numbers_at k (suc c) zero d l = omega arith
numbers_at k (suc c) (suc i) d l = let e = numbers_at (suc k) c i d (omega arith) in omega arith

pub numbers_distinct : (k c : ℕ) → IsDistinct (numbers_from k c)
numbers_distinct k zero = tt
numbers_distinct k (suc c) = ((λ i. let r = (in_numbers (suc k) c k i).0 in omega arith), numbers_distinct (suc k) c)

pub in_filter : {X : Type 0} (p : X → Bool) (xs : List X) (x : X) → In x xs → p x ≡ true → In x (filter p xs)
in_filter p [] x i e = absurd i
in_filter p (y ∷ ys) x i e = go (cases_Bool (p y)) i (λ j. in_filter p ys x j e)
  where
    go : (p y ≡ true) ⊎ (p y ≡ false) → In x (y ∷ ys) → (In x ys → In x (filter p ys)) → In x (filter p (y ∷ ys))
    go (inl t) (inl q) r = subst (λ z. In x (cond z (y ∷ filter p ys) (filter p ys))) (sym t) (inl q)
    go (inl t) (inr j) r = subst (λ z. In x (cond z (y ∷ filter p ys) (filter p ys))) (sym t) (inr (r j))
    go (inr f) (inl q) r = absurd (true≢false (sym (subst (λ z. p z ≡ true) q e) ∙ f))
    go (inr f) (inr j) r = subst (λ z. In x (cond z (y ∷ filter p ys) (filter p ys))) (sym f) (r j)

pub filter_in : {X : Type 0} (p : X → Bool) (xs : List X) (x : X) → In x (filter p xs) → In x xs × (p x ≡ true)
filter_in p [] x i = absurd i
filter_in p (y ∷ ys) x i = go (cases_Bool (p y)) (λ j. filter_in p ys x j)
  where
    go : (p y ≡ true) ⊎ (p y ≡ false) → (In x (filter p ys) → In x ys × (p x ≡ true)) → In x (y ∷ ys) × (p x ≡ true)
    go (inl t) r = elim (subst (λ z. In x (cond z (y ∷ filter p ys) (filter p ys))) t i) [
      | inl q ↦ (inl q, subst (λ z. p z ≡ true) (sym q) t)
      | inr j ↦ (inr (r j).0, (r j).1)
    ]
    go (inr f) r = let k = r (subst (λ z. In x (cond z (y ∷ filter p ys) (filter p ys))) f i) in (inr k.0, k.1)

pub filter_distinct : {X : Type 0} (p : X → Bool) (xs : List X) → IsDistinct xs → IsDistinct (filter p xs)
filter_distinct p [] d = tt
filter_distinct p (x ∷ xs) d = go (cases_Bool (p x)) (filter_distinct p xs d.1)
  where
    go : (p x ≡ true) ⊎ (p x ≡ false) → IsDistinct (filter p xs) → IsDistinct (filter p (x ∷ xs))
    go (inl t) r = subst (λ z. IsDistinct (cond z (x ∷ filter p xs) (filter p xs))) (sym t) ((λ i. d.0 (filter_in p xs x i).0), r)
    go (inr f) r = subst (λ z. IsDistinct (cond z (x ∷ filter p xs) (filter p xs))) (sym f) r

pub map_distinct : {X Y : Type 0} (g : X → Y) (xs : List X) → ((x y : X) → g x ≡ g y → x ≡ y) → IsDistinct xs → IsDistinct (map g xs)
map_distinct g [] h d = tt
map_distinct g (x ∷ xs) h d = (
  (λ i. let r = In_map-from g (g x) xs i in
      d.0 (subst (λ z. In z xs) (sym (h x r.0 r.2)) r.1)),
  map_distinct g xs h d.1,
)
