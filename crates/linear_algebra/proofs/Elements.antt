-- The scalars as the elements of a field: numbers that carry the fact that they are below the order, so that no law has a premise.
use mathlib.Core.HLevel.{Σ_prop_path}
use Rattle.std.proofs.Common.{◌≡◌, ◌≢◌, ℕ, zero, suc, ◌<◌, ◌≤◌, inl, inr, List, [], ◌∷◌, sym, ap, ◌∙◌, arith, le_of_lt, le_refl}
use Rattle.std.proofs.Math.Bridge.{le_prop}
use Rattle.std.proofs.Math.Decide.{ℕ_discrete}
use Rattle.linear_algebra.specs.Scalars.{Scalars, IsScalar, IsField}
use Rattle.vector_spaces.proofs.Members.{In}
use Rattle.vector_spaces.proofs.Space.{Field}

-- a number below the order
abbrev pub Element : Scalars → Type 0
Element S = (n : ℕ) × (n < S.order)

-- elements are equal where their numbers are
pub same_element : (S : Scalars) (a b : Element S) → a.0 ≡ b.0 → a ≡ b
same_element S a b e = Σ_prop_path (λ n. le_prop) e

-- all elements whose numbers are below n
unfoldable pub elements_below : (S : Scalars) (n : ℕ) → n ≤ S.order → List (Element S)
elements_below S zero h = []
elements_below S (suc n) h = (n, h) ∷ elements_below S n (le_of_lt h)

pub elements_below_all : (S : Scalars) (n : ℕ) (h : n ≤ S.order) (a : Element S) → a.0 < n → In a (elements_below S n h)
unfolding elements_below
elements_below_all S zero h a l = absurd (omega arith)
elements_below_all S (suc n) h a l = go (ℕ_discrete a.0 n) (elements_below_all S n (le_of_lt h) a)
  where
    go : Dec (a.0 ≡ n) → (a.0 < n → In a (elements_below S n (le_of_lt h))) → In a (elements_below S (suc n) h)
    go (yes e) ih = inl (same_element S a (n, h) e)
    go (no m) ih = inr (ih (omega arith))

module _ (S : Scalars) (F : IsField S) where
  unfoldable pub zero_element : Element S
  zero_element = (S.zero, F.zero_in)

  unfoldable pub one_element : Element S
  one_element = (S.one, F.one_in)

  unfoldable pub add_elements : Element S → Element S → Element S
  add_elements a b = (S.sum a.0 b.0, F.sum_in a.0 b.0 a.1 b.1)

  unfoldable pub multiply_elements : Element S → Element S → Element S
  multiply_elements a b = (S.product a.0 b.0, F.product_in a.0 b.0 a.1 b.1)

  pub negative_element : Element S → Element S
  negative_element a = let r = F.negative a.0 a.1 in (r.0, r.1)

  pub decide_same : (a b : Element S) → Dec (a ≡ b)
  decide_same a b = go (ℕ_discrete a.0 b.0)
    where
      go : Dec (a.0 ≡ b.0) → Dec (a ≡ b)
      go (yes e) = yes (same_element S a b e)
      go (no n) = no (λ e. n (ap (λ t. t.0) e))

  -- the inverse, and zero at zero
  pub inverse_element : Element S → Element S
  inverse_element a = elim (ℕ_discrete a.0 S.zero) [ yes e ↦ zero_element | no n ↦ (let r = F.inverse a.0 a.1 n in (r.0, r.1)) ]

  pub multiply-inverse : (a : Element S) → a ≢ zero_element → multiply_elements a (inverse_element a) ≡ one_element
  unfolding multiply_elements inverse_element one_element zero_element
  multiply-inverse a n = elim (ℕ_discrete a.0 S.zero) as (λ d. multiply_elements a (elim d [ yes e ↦ zero_element | no n ↦ (let r = F.inverse a.0 a.1 n in (r.0, r.1)) ]) ≡ one_element)
      [ yes e ↦ absurd (n (same_element S a zero_element e)) | no m ↦ same_element S _ _ (F.inverse a.0 a.1 m).2 ]

  pub multiply-zero : (a : Element S) → multiply_elements a zero_element ≡ zero_element
  unfolding multiply_elements zero_element
  multiply-zero a = same_element S _ _ (cancel (S.product a.0 S.zero) (F.product_in a.0 S.zero a.1 F.zero_in)
      (sym (F.product-sum a.0 S.zero S.zero a.1 F.zero_in F.zero_in) ∙ ap (λ x. S.product a.0 x) (F.sum-zero S.zero F.zero_in)))
    where
      cancel : (x : ℕ) → IsScalar S x → S.sum x x ≡ x → x ≡ S.zero
      cancel x h e = let n = F.negative x h in
          sym (F.sum-zero x h) ∙ ap (λ y. S.sum x y) (sym n.2) ∙ sym (F.sum_assoc x x n.0 h h n.1) ∙ ap (λ y. S.sum y n.0) e ∙ n.2

  -- the scalars of S as a field
  unfoldable pub scalar_field : Field (Element S)
  unfolding zero_element one_element add_elements multiply_elements negative_element
  scalar_field = record {
    zero = zero_element;
    one = one_element;
    minus = negative_element one_element;
    ◌⊞◌ = add_elements;
    ◌⊠◌ = multiply_elements;
    inv = inverse_element;
    add_assoc = λ a b c. same_element S _ _ (F.sum_assoc a.0 b.0 c.0 a.1 b.1 c.1);
    add_comm = λ a b. same_element S _ _ (F.sum_comm a.0 b.0 a.1 b.1);
    add-zero = λ a. same_element S _ _ (F.sum-zero a.0 a.1);
    one-minus = same_element S _ _ (F.negative S.one F.one_in).2;
    mul_assoc = λ a b c. same_element S _ _ (F.product_assoc a.0 b.0 c.0 a.1 b.1 c.1);
    mul_comm = λ a b. same_element S _ _ (F.product_comm a.0 b.0 a.1 b.1);
    mul-one = λ a. same_element S _ _ (F.product-one a.0 a.1);
    mul-zero = multiply-zero;
    mul-add = λ a b c. same_element S _ _ (F.product-sum a.0 b.0 c.0 a.1 b.1 c.1);
    mul-inv = multiply-inverse;
    one≢zero = λ e. F.one≢zero (ap (λ t. t.0) e);
    same_scalar = decide_same;
    scalars = elements_below S S.order (le_refl S.order);
    every = λ a. elements_below_all S S.order (le_refl S.order) a a.1;
  }

  -- of numbers
  pub product-zero : (a : ℕ) → IsScalar S a → S.product a S.zero ≡ S.zero
  unfolding multiply_elements zero_element
  product-zero a h = ap (λ (t : Element S). t.0) (multiply-zero (a, h))
