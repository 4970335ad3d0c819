-- Bytes as polynomials over two elements: bit i of the number is the coefficient of x^i. So 2 ^ i is x^i, and sums and differences are exclusive ors.
use Rattle.std.specs.Prelude.{◌≡◌, ℕ, ◌+◌, ◌*◌, ◌/◌, ◌%◌, ◌^◌, ◌<◌}
use Rattle.std.specs.Int.Bits.{bit_xor}
use Rattle.std.proofs.Common.{zero, suc}

-- the coefficient of x^i in p
abbrev pub coefficient : ℕ → ℕ → ℕ
coefficient p i = p / 2 ^ i % 2

-- the product of a and b as polynomials, in which no bit carries: the sum of a times x^i over the terms x^i of b, which has degree below n
abbrev pub carryless_product : ℕ → ℕ → ℕ → ℕ
carryless_product zero a b = 0
carryless_product (suc n) a b = bit_xor (carryless_product n a b) (coefficient b n * (a * 2 ^ n))

-- the remainder of p, of degree below 8 + n, by m, of degree 8: for i from n - 1 down to 0, m times x^i is taken from what is left of p where that has the term x^(8 + i)
abbrev pub remainder : ℕ → ℕ → ℕ → ℕ
remainder m zero p = p
remainder m (suc n) p = remainder m n (bit_xor p (coefficient p (8 + n) * (m * 2 ^ n)))

-- the product of two bytes: their product as polynomials, reduced by x^8 + x^4 + x^3 + x + 1, which is 0x11B
unfoldable pub byte_product : ℕ → ℕ → ℕ
byte_product a b = remainder 0x11B 7 (carryless_product 8 a b)

-- a byte, n times multiplied with itself
unfoldable pub byte_power : ℕ → ℕ → ℕ
byte_power a zero = 1
byte_power a (suc n) = byte_product (byte_power a n) a

-- r is what p leaves when it is divided by m, of degree 8: p is a multiple of m plus r, and r has degree below 8
pub record IsRemainder (m p r : ℕ) : Type 0 where
  pub quotient : ℕ
  pub whole : bit_xor (carryless_product 9 quotient m) r ≡ p
  pub small : r < 2 ^ 8
