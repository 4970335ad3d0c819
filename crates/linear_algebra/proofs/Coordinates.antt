-- Vectors as the elements of a space: `list` reads a tuple of elements as a list of numbers, `tuple` a list as a tuple.
use Rattle.std.proofs.Common.{◌≡◌, ℕ, zero, suc, ◌<◌, List, [], ◌∷◌, map, refl, sym, ap, ap₂, ◌∙◌, arith}
use Rattle.std.proofs.Math.Decide.{dec_lt}
use Rattle.std.proofs.lemmas.List.Elements.{All-nil, All-cons, All-head, All-tail}
use Rattle.vector_spaces.proofs.Space.{Space}
use Rattle.vector_spaces.proofs.Tuples.{Tuple, tuples}
use Rattle.vector_spaces.proofs.Combination.{combination as combination_of}
use Rattle.linear_algebra.specs.Scalars.{Scalars, IsScalar, IsField}
use Rattle.linear_algebra.specs.Vectors.{IsVector, zero_vector, vector_sum, multiple}
use Rattle.linear_algebra.specs.Spans.{combination}
use Rattle.linear_algebra.proofs.Elements.{Element, scalar_field, same_element, zero_element, add_elements, multiply_elements}

abbrev pub number : (S : Scalars) → Element S → ℕ
number S a = a.0

abbrev pub list : (S : Scalars) (d : ℕ) → Tuple (Element S) d → List ℕ
list S zero v = []
list S (suc d) v = v.0.0 ∷ list S d v.1

pub list-vector : (S : Scalars) (d : ℕ) (v : Tuple (Element S) d) → IsVector S d (list S d v)
list-vector S zero v = record { length_is = refl; entries = All-nil (IsScalar S) }
list-vector S (suc d) v = let r = list-vector S d v.1 in record { length_is = ap suc r.length_is; entries = All-cons (IsScalar S) v.0.0 (list S d v.1) v.0.1 r.entries }

-- a vector's first entry and the others
pub IsVector-head : (S : Scalars) (d a : ℕ) (v : List ℕ) → IsVector S (suc d) (a ∷ v) → IsScalar S a
IsVector-head S d a v h = All-head (IsScalar S) a v h.entries

pub IsVector-tail : (S : Scalars) (d a : ℕ) (v : List ℕ) → IsVector S (suc d) (a ∷ v) → IsVector S d v
IsVector-tail S d a v h = record { length_is = let e = h.length_is in omega arith; entries = All-tail (IsScalar S) a v h.entries }

module _ (S : Scalars) (F : IsField S) where
  abbrev pub element_by : (a : ℕ) → Dec (a < S.order) → Element S
  element_by a (yes h) = (a, h)
  element_by a (no n) = zero_element S F

  -- a scalar as an element, and any other number as zero
  unfoldable pub element : ℕ → Element S
  element a = element_by a (dec_lt a S.order)

  pub element-number : (a : ℕ) → IsScalar S a → (element a).0 ≡ a
  unfolding element
  element-number a h = elim (dec_lt a S.order) as (λ d. (element_by a d).0 ≡ a) [ yes k ↦ refl | no n ↦ absurd (n h) ]

  pub element-of : (a : Element S) → element a.0 ≡ a
  element-of a = same_element S (element a.0) a (element-number a.0 a.1)

  pub element-sum : (a b : ℕ) → IsScalar S a → IsScalar S b → element (S.sum a b) ≡ (scalar_field S F).◌⊞◌ (element a) (element b)
  unfolding scalar_field add_elements
  element-sum a b h k = same_element S _ _ (element-number (S.sum a b) (F.sum_in a b h k) ∙ sym (ap₂ S.sum (element-number a h) (element-number b k)))

  pub element-product : (a b : ℕ) → IsScalar S a → IsScalar S b → element (S.product a b) ≡ (scalar_field S F).◌⊠◌ (element a) (element b)
  unfolding scalar_field multiply_elements
  element-product a b h k = same_element S _ _ (element-number (S.product a b) (F.product_in a b h k) ∙ sym (ap₂ S.product (element-number a h) (element-number b k)))

  pub element-zero : element S.zero ≡ (scalar_field S F).zero
  unfolding scalar_field zero_element
  element-zero = same_element S _ _ (element-number S.zero F.zero_in)

  -- a list of any numbers as a tuple: what is missing, or no scalar, counts as zero
  unfoldable pub tuple : (d : ℕ) → List ℕ → Tuple (Element S) d
  tuple zero v = tt
  tuple (suc d) [] = (zero_element S F, tuple d [])
  tuple (suc d) (a ∷ v) = (element a, tuple d v)

  pub list-tuple : (d : ℕ) (v : List ℕ) → IsVector S d v → list S d (tuple d v) ≡ v
  unfolding tuple
  list-tuple zero [] h = refl
  list-tuple zero (a ∷ v) h = absurd (let e = h.length_is in omega arith)
  list-tuple (suc d) [] h = absurd (let e = h.length_is in omega arith)
  list-tuple (suc d) (a ∷ v) h = ap₂ (λ x y. x ∷ y) (element-number a (IsVector-head S d a v h)) (list-tuple d v (IsVector-tail S d a v h))

  -- a list whose tuple this is
  pub list-is : (d : ℕ) (v : List ℕ) → IsVector S d v → {t : Tuple (Element S) d} → tuple d v ≡ t → v ≡ list S d t
  list-is d v h e = sym (list-tuple d v h) ∙ ap (list S d) e

  pub tuple-list : (d : ℕ) (v : Tuple (Element S) d) → tuple d (list S d v) ≡ v
  unfolding tuple
  tuple-list zero v = refl
  tuple-list (suc d) v = ap₂ (λ x y. (x, y)) (element-of v.0) (tuple-list d v.1)

  -- the space of the vectors of length d
  abbrev pub space : (d : ℕ) → Space (scalar_field S F) (Tuple (Element S) d)
  space d = tuples (scalar_field S F) d

  pub list-null : (d : ℕ) → list S d (space d).null ≡ zero_vector S d
  unfolding zero_element scalar_field
  list-null zero = refl
  list-null (suc d) = ap (λ v. S.zero ∷ v) (list-null d)

  pub list-plus : (d : ℕ) (u v : Tuple (Element S) d) → list S d ((space d).◌⊕◌ u v) ≡ vector_sum S (list S d u) (list S d v)
  unfolding vector_sum add_elements scalar_field
  list-plus zero u v = refl
  list-plus (suc d) u v = ap (λ w. S.sum u.0.0 v.0.0 ∷ w) (list-plus d u.1 v.1)

  pub list-scale : (d : ℕ) (c : Element S) (v : Tuple (Element S) d) → list S d ((space d).◌·◌ c v) ≡ multiple S c.0 (list S d v)
  unfolding multiply_elements scalar_field
  list-scale zero c v = refl
  list-scale (suc d) c v = ap (λ w. S.product c.0 v.0.0 ∷ w) (list-scale d c v.1)

  pub list-combination : (d : ℕ) (cs : List (Element S)) (vs : List (Tuple (Element S) d)) → list S d (combination_of (space d) cs vs) ≡ combination S d (map (number S) cs) (map (list S d) vs)
  unfolding combination combination_of
  list-combination d [] vs = list-null d
  list-combination d (c ∷ cs) [] = list-null d
  list-combination d (c ∷ cs) (v ∷ vs) = list-plus d _ _ ∙ ap₂ (vector_sum S) (list-scale d c v) (list-combination d cs vs)
