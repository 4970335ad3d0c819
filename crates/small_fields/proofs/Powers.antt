-- Powers of bytes, and what the tables of the powers of x + 1 and of their exponents hold.
use Rattle.std.proofs.Common.{◌≡◌, ◌≢◌, ℕ, zero, suc, ◌+◌, ◌<◌, Bool, true, ◌&&◌, ◌||◌, ◌==◌, nat_lt, get_or, refl, sym, ap, ◌∙◌, arith, lit<}
use Rattle.std.proofs.lemmas.Bool.Decides.{nat_tests, Decides-eqb}
use Rattle.small_fields.specs.Bytes.{byte_power, byte_product}
use Rattle.small_fields.specs.Laws.ByteField.{product-below, product_assoc, product-one}
use Rattle.small_fields.specs.Laws.Tests.{all_below, all_below-at}
use Rattle.small_fields.specs.declared.byte_tables.TheConstants.{LOGARITHMS, POWERS}

byte_power-below : (a n : ℕ) → a < 256 → byte_power a n < 256
unfolding byte_power
byte_power-below a zero h = lit< tt
byte_power-below a (suc n) h = product-below (byte_power a n) a (byte_power-below a n h) h

-- exponents add in a product
pub byte_power-sum : (a m n : ℕ) → a < 256 → byte_product (byte_power a m) (byte_power a n) ≡ byte_power a (m + n)
unfolding byte_power
byte_power-sum a m zero h = product-one (byte_power a m) (byte_power-below a m h) ∙ ap (byte_power a) (let e : m ≡ m + 0 = omega arith in e)
byte_power-sum a m (suc n) h =
    sym (product_assoc (byte_power a m) (byte_power a n) a (byte_power-below a m h) (byte_power-below a n h) h)
    ∙ ap (λ p. byte_product p a) (byte_power-sum a m n h) ∙ ap (byte_power a) (let e : suc (m + n) ≡ m + suc n = omega arith in e)

-- each power in the table, but the first, is x + 1 times the one before: the test of all of them
abbrev follows : ℕ → Bool
follows i = get_or POWERS (i + 1) 0 == byte_product (get_or POWERS i 0) 3

each_follows : all_below follows 508 ≡ true
unfolding byte_product
each_follows = refl

pub powers-are : (i : ℕ) → i < 509 → get_or POWERS i 0 ≡ byte_power 3 i
unfolding byte_power
powers-are zero h = refl
powers-are (suc i) h =
    ap (λ n. get_or POWERS n 0) (let e : suc i ≡ i + 1 = omega arith in e)
    ∙ all_below-at follows (λ k. get_or POWERS (k + 1) 0 ≡ byte_product (get_or POWERS k 0) 3)
    (λ k. Decides-eqb (get_or POWERS (k + 1) 0) (byte_product (get_or POWERS k 0) 3)) 508 each_follows i (omega arith)
    ∙ ap (λ p. byte_product p 3) (powers-are i (omega arith))

-- each byte but zero is the power with its exponent, which is below 255: the test of all of them
abbrev has_exponent : ℕ → Bool
has_exponent a = a == 0 || (nat_lt (get_or LOGARITHMS a 0) 255 && get_or POWERS (get_or LOGARITHMS a 0) 0 == a)

each_has_exponent : all_below has_exponent 256 ≡ true
each_has_exponent = refl

exponent_parts : (a l p : ℕ) → (a == 0 || (nat_lt l 255 && p == a)) ≡ true → a ≢ 0 → (l < 255) × (p ≡ a)
exponent_parts a l p h n = (grind (arith, nat_tests, h), grind (arith, nat_tests, h))

exponent_found : (a : ℕ) → a < 256 → a ≢ 0 → (get_or LOGARITHMS a 0 < 255) × (get_or POWERS (get_or LOGARITHMS a 0) 0 ≡ a)
exponent_found a h = exponent_parts a (get_or LOGARITHMS a 0) (get_or POWERS (get_or LOGARITHMS a 0) 0)
    (all_below-at has_exponent (λ k. has_exponent k ≡ true) (λ k. (λ e. e, λ e. e)) 256 each_has_exponent a h)

pub exponent-below : (a : ℕ) → a < 256 → a ≢ 0 → get_or LOGARITHMS a 0 < 255
exponent-below a h n = (exponent_found a h n).0

pub power-exponent : (a : ℕ) → a < 256 → a ≢ 0 → byte_power 3 (get_or LOGARITHMS a 0) ≡ a
power-exponent a h n =
    let found = exponent_found a h n in
    sym (powers-are (get_or LOGARITHMS a 0) (let l = found.0 in omega arith)) ∙ found.1

-- the power 255 is one
pub power_255 : byte_power 3 255 ≡ 1
power_255 = sym (powers-are 255 (lit< tt))
