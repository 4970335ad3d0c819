-- Numbers by their numerals.
use Rattle.std.proofs.Common.{◌≡◌, ℕ, zero, suc, ◌+◌, ◌^◌, ◌<◌, ◌≤◌, ◌↔◌, List, ◌++◌, length, replicate, Bool, true, false, cond, None}
use Rattle.std.proofs.Common.{Some, refl, ◌∙◌, arith, rules}
use Rattle.std.specs.Prelude.{◌==◌, nat_le}
use Rattle.std.specs.Char.{is_ascii_digit}
use Rattle.std.specs.Fmt.{decimal}
use Rattle.std.specs.List.{list_all}
use Rattle.std.specs.Str.Parse.{digits_value}
use Rattle.std.proofs.lemmas.Bool.{and_parts, leb-true, le-leb, ne_eqb}
use Rattle.std.proofs.lemmas.List.{length-append, length-replicate}
use Rattle.std.proofs.lemmas.List.Folds.{list_all-append}
use Rattle.std.proofs.lemmas.Fmt.{length-decimal-le, decimal_nonempty, digits_decimal, digits_value-decimal}
use Rattle.std.proofs.lemmas.Str.Parse.{IsNumeralModel, numerals_by_value}
use Rattle.line_lexer.specs.Numbers.{is_number, number_of}
use Rattle.line_lexer.specs.Words.{is_in_word, IsWord}
use Rattle.line_lexer.proofs.Spelled.{list_all_weaker}
use Rattle.text_forms.specs.Spelling.{IsNumeralOf}

some_is : {A : Type 0} (b : Bool) (x y : A) → cond b (Some x) None ≡ Some y → (b ≡ true) × (x ≡ y)
some_is true x y e = (refl, cc (e))
some_is false x y e = absurd (cc (e))

pub number_of-numeral : (n : ℕ) (word : List ℕ) → (number_of word ≡ Some n) ↔ IsNumeralOf n word
unfolding number_of
number_of-numeral n word = (
  λ e.
      let h = some_is (is_number word) (digits_value 10 word) n e in
      let one = and_parts (nat_le 1 (length word)) _ h.0 in
      let two = and_parts (nat_le (length word) 9) (list_all is_ascii_digit word) one.1 in
      record { some = leb-true 1 (length word) one.0; few = leb-true (length word) 9 two.0; digits = two.1; value = h.1 },
  λ h.
      let some : nat_le 1 (length word) ≡ true = le-leb _ _ h.some in
      let few : nat_le (length word) 9 ≡ true = le-leb _ _ h.few in
      rw (some, few, h.digits, h.value) refl,
)

own : IsNumeralModel (λ ds. list_all is_ascii_digit ds ≡ true) (digits_value 10)
own = numerals_by_value _ (search rules)

-- the decimal of a number is its numeral
pub decimal-numeral : (n : ℕ) → n < 10 ^ 9 → IsNumeralOf n (decimal n)
decimal-numeral n h =
    let small : n < 2 ^ 64 = omega arith in
    record {
      some = omega (arith, decimal_nonempty n small);
      few = length-decimal-le 9 n (omega arith) h small;
      digits = digits_decimal own n small;
      value = digits_value-decimal own n small;
    }

zeros-value : (k : ℕ) (ds : List ℕ) → digits_value 10 (replicate k 48 ++ ds) ≡ digits_value 10 ds
zeros-value zero ds = refl
zeros-value (suc k) ds = zeros-value k ds

zeros-digits : (k : ℕ) → list_all is_ascii_digit (replicate k 48) ≡ true
zeros-digits zero = refl
zeros-digits (suc k) = zeros-digits k

-- zeros before a numeral make another of the same number, up to 9 digits in all
pub zeros-numeral : (k n : ℕ) (word : List ℕ) → IsNumeralOf n word → k + length word ≤ 9 → IsNumeralOf n (replicate k 48 ++ word)
zeros-numeral k n word h fits =
    record {
      some = omega (arith, h.some, length-append (replicate k 48) word, length-replicate {A = ℕ} k 48);
      few = omega (arith, length-append (replicate k 48) word, length-replicate {A = ℕ} k 48);
      digits = rw (list_all-append is_ascii_digit (replicate k 48) word, zeros-digits k, h.digits) refl;
      value = zeros-value k word ∙ h.value;
    }

digit_in : (b : ℕ) → is_ascii_digit b ≡ true → is_in_word b ≡ true
digit_in b e =
    let parts = and_parts (nat_le 48 b) (nat_le b 57) e in
    let low : 48 ≤ b = leb-true 48 b parts.0 in
    let high : b ≤ 57 = leb-true b 57 parts.1 in
    let one : nat_le 33 b ≡ true = le-leb _ _ (omega arith) in
    let two : nat_le b 126 ≡ true = le-leb _ _ (omega arith) in
    let three : (b == 35) ≡ false = ne_eqb _ _ (λ q. omega arith) in
    rw (one, two, three) refl

-- a numeral is a word
pub numeral-word : (n : ℕ) (word : List ℕ) → IsNumeralOf n word → IsWord word
numeral-word n word h = record { some = omega (arith, h.some); bytes = list_all_weaker is_ascii_digit is_in_word digit_in word h.digits }
