-- The scalars of a finite field, as contracts see them: the numbers below its order.
use Rattle.std.specs.Prelude.{◌≡◌, ◌≢◌, ℕ, ◌<◌}

-- how many scalars there are, and what zero, one, sums and products are
pub record Scalars : Type 0 where
  pub order : ℕ
  pub zero : ℕ
  pub one : ℕ
  pub sum : ℕ → ℕ → ℕ
  pub product : ℕ → ℕ → ℕ

-- a is one of the scalars
abbrev pub IsScalar : Scalars → ℕ → Type 0
IsScalar S a = a < S.order

-- the laws of a field, of the scalars alone
pub record IsField (S : Scalars) : Type 0 where
  pub zero_in : IsScalar S S.zero
  pub one_in : IsScalar S S.one
  pub sum_in : (a b : ℕ) → IsScalar S a → IsScalar S b → IsScalar S (S.sum a b)
  pub product_in : (a b : ℕ) → IsScalar S a → IsScalar S b → IsScalar S (S.product a b)
  pub sum_comm : (a b : ℕ) → IsScalar S a → IsScalar S b → S.sum a b ≡ S.sum b a
  pub sum_assoc : (a b c : ℕ) → IsScalar S a → IsScalar S b → IsScalar S c → S.sum (S.sum a b) c ≡ S.sum a (S.sum b c)
  pub sum-zero : (a : ℕ) → IsScalar S a → S.sum a S.zero ≡ a
  pub negative : (a : ℕ) → IsScalar S a → (b : ℕ) × IsScalar S b × (S.sum a b ≡ S.zero)
  pub product_comm : (a b : ℕ) → IsScalar S a → IsScalar S b → S.product a b ≡ S.product b a
  pub product_assoc : (a b c : ℕ) → IsScalar S a → IsScalar S b → IsScalar S c → S.product (S.product a b) c ≡ S.product a (S.product b c)
  pub product-one : (a : ℕ) → IsScalar S a → S.product a S.one ≡ a
  pub product-sum : (a b c : ℕ) → IsScalar S a → IsScalar S b → IsScalar S c → S.product a (S.sum b c) ≡ S.sum (S.product a b) (S.product a c)
  pub inverse : (a : ℕ) → IsScalar S a → a ≢ S.zero → (b : ℕ) × IsScalar S b × (S.product a b ≡ S.one)
  pub one≢zero : S.one ≢ S.zero
