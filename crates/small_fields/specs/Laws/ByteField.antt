-- The laws of the field of 256 elements. The product is linear in each factor, so they follow from what the check computes of the powers of x.
use Rattle.std.specs.Prelude.{◌≡◌, ◌≢◌, ℕ, ◌/◌, ◌^◌, ◌<◌, Bool, true, ◌&&◌, ◌||◌, ◌==◌, nat_lt, refl}
use Rattle.std.specs.Int.Bits.{xor_zero_r, xor_comm, xor_self, xor_assoc, xor_lt}
use Rattle.std.proofs.Common.{zero, suc, arith, lit<}
use Rattle.std.proofs.lemmas.Bool.Decides.{nat_tests}
use Rattle.linear_algebra.specs.Scalars.{IsField}
use Rattle.small_fields.specs.Bytes.{byte_product}
use Rattle.small_fields.specs.ScalarsOf.{scalars_of}
use Rattle.small_fields.specs.Laws.Tests.{all_below, all_below-at}
use Rattle.small_fields.specs.Laws.Linear.{IsLinear, IsBilinear, constant_linear, self_linear, after_linear, high_linear, same_linear, same_by_powers, same_products, same_bilinear}
use Rattle.small_fields.specs.Laws.Products.{product_bilinear}

-- the product is linear in its first factor
pub left : (b : ℕ) → IsLinear (λ a. byte_product a b)
left b = product_bilinear.left b

-- and in its second
pub right : (a : ℕ) → IsLinear (λ b. byte_product a b)
right a = product_bilinear.right a

-- a product of bytes has no term from x^8 on: the 64 products of powers of x have none
zero_bilinear : IsBilinear (λ a b. 0)
zero_bilinear = record { left = λ b. constant_linear; right = λ a. constant_linear }

high_bilinear : IsBilinear (λ a b. byte_product a b / 2 ^ 8)
high_bilinear = record { left = λ b. high_linear (λ a. byte_product a b) (left b); right = λ a. high_linear (λ b. byte_product a b) (right a) }

product-high : (a b : ℕ) → a < 2 ^ 8 → b < 2 ^ 8 → byte_product a b / 2 ^ 8 ≡ 0
unfolding byte_product
product-high = same_bilinear (λ a b. byte_product a b / 2 ^ 8) (λ a b. 0) high_bilinear zero_bilinear refl

-- so it is a byte
below_256 : (p : ℕ) → p / 2 ^ 8 ≡ 0 → p < 256
below_256 p e = omega (arith, e)

pub product-below : (a b : ℕ) → a < 256 → b < 256 → byte_product a b < 256
product-below a b small_a small_b = below_256 (byte_product a b) (product-high a b small_a small_b)

-- the product is the same in either order, since it is so at the 64 pairs of powers of x
turned_bilinear : IsBilinear (λ a b. byte_product b a)
turned_bilinear = record { left = right; right = left }

pub product_comm : (a b : ℕ) → a < 256 → b < 256 → byte_product a b ≡ byte_product b a
unfolding byte_product
product_comm = same_bilinear byte_product (λ a b. byte_product b a) product_bilinear turned_bilinear refl

-- a byte times one is that byte, since each power of x is so
pub product-one : (a : ℕ) → a < 256 → byte_product a 1 ≡ a
unfolding byte_product
product-one = same_by_powers 8 (λ a. byte_product a 1) (λ a. a) (left 1) self_linear refl

-- the product of three powers of x does not depend on which two are multiplied first: the test of 512 cases
abbrev associates : ℕ → Bool
associates k = same_products (λ i j. byte_product (byte_product i j) (2 ^ k)) (λ i j. byte_product i (byte_product j (2 ^ k)))

associate : all_below associates 8 ≡ true
unfolding byte_product
associate = refl

-- both ways to multiply three bytes are linear in each
first_bilinear : (c : ℕ) → IsBilinear (λ a b. byte_product (byte_product a b) c)
first_bilinear c = record {
  left = λ b. after_linear (λ p. byte_product p c) (λ a. byte_product a b) (left c) (left b);
  right = λ a. after_linear (λ p. byte_product p c) (λ b. byte_product a b) (left c) (right a);
}

last_bilinear : (c : ℕ) → IsBilinear (λ a b. byte_product a (byte_product b c))
last_bilinear c = record {
  left = λ b. left (byte_product b c);
  right = λ a. after_linear (λ p. byte_product a p) (λ b. byte_product b c) (right a) (left c);
}

-- so the product of three bytes does not depend on it either
pub product_assoc : (a b c : ℕ) → a < 256 → b < 256 → c < 256 → byte_product (byte_product a b) c ≡ byte_product a (byte_product b c)
product_assoc a b c small_a small_b small_c =
    same_linear 8 (λ z. byte_product (byte_product a b) z) (λ z. byte_product a (byte_product b z)) (right (byte_product a b)) (after_linear (λ p. byte_product a p) (λ z. byte_product b z) (right a) (right b))
    (λ k l. same_bilinear (λ x y. byte_product (byte_product x y) (2 ^ k)) (λ x y. byte_product x (byte_product y (2 ^ k))) (first_bilinear (2 ^ k)) (last_bilinear (2 ^ k)) (all_below-at associates (λ k. associates k ≡ true) (λ k. (λ e. e, λ e. e)) 8 associate k l) a b small_a small_b) c small_c

-- r times the powers 2, 4, 8 and so on of p, n of them
abbrev pub times_squares : ℕ → ℕ → ℕ → ℕ
times_squares zero p r = r
times_squares (suc n) p r = times_squares n (byte_product p p) (byte_product r (byte_product p p))

-- the power 254, which is 2 + 4 + 8 and so on to 128
unfoldable pub power_254 : ℕ → ℕ
power_254 a = times_squares 7 a 1

-- the test that the power 254 of a is a byte whose product with a is one, or that a is zero
abbrev inverts : ℕ → Bool
inverts a = a == 0 || (nat_lt (power_254 a) 256 && byte_product a (power_254 a) == 1)

each_inverts : all_below inverts 256 ≡ true
unfolding byte_product power_254
each_inverts = refl

-- i is the inverse of a
pub record IsInverse (a i : ℕ) : Type 0 where
  pub small : i < 256
  pub one : byte_product a i ≡ 1

-- what the test says
inverts_parts : (a i p : ℕ) → (a == 0 || (nat_lt i 256 && p == 1)) ≡ true → a ≢ 0 → (i < 256) × (p ≡ 1)
inverts_parts a i p h n = (grind (arith, nat_tests, h), grind (arith, nat_tests, h))

-- the power 254 is the inverse
pub power_254-inverse : (a : ℕ) → a < 256 → a ≢ 0 → IsInverse a (power_254 a)
power_254-inverse a small n =
    let h = inverts_parts a (power_254 a) (byte_product a (power_254 a)) (all_below-at inverts (λ a. inverts a ≡ true) (λ a. (λ e. e, λ e. e)) 256 each_inverts a small) n in
    record { small = h.0; one = h.1 }

-- bytes meet the laws of a field
pub byte_field : IsField (scalars_of 256)
byte_field = record {
  zero_in = lit< tt;
  one_in = lit< tt;
  sum_in = λ a b p r. xor_lt 8 a b p r;
  product_in = product-below;
  sum_comm = λ a b p r. xor_comm a b;
  sum_assoc = λ a b c p r s. xor_assoc a b c;
  sum-zero = λ a p. xor_zero_r a;
  negative = λ a p. (a, p, xor_self a);
  product_comm = product_comm;
  product_assoc = product_assoc;
  product-one = product-one;
  product-sum = λ a b c p r s. (right a).adds b c;
  inverse = λ a p n. let i = power_254-inverse a p n in (power_254 a, i.small, i.one);
  one≢zero = λ e. absurd (omega (arith, e));
}
