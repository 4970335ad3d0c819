-- What is written are words, and numerals of the numbers.
use Rattle.std.proofs.Common.{◌≡◌, ℕ, zero, suc, ◌+◌, ◌^◌, ◌<◌, ◌≤◌, List, [], ◌∷◌, ◌++◌, map, All, refl, arith}
use Rattle.std.specs.Fmt.{decimal}
use Rattle.std.specs.List.{AllByRecursion, Contains}
use Rattle.std.specs.List.Sorted.{IsStrictlyIncreasing}
use Rattle.std.specs.Prelude.{slice_index_or}
use Rattle.std.proofs.lemmas.List.Elements.{All-head, All-tail}
use Rattle.line_lexer.specs.Words.{IsWord, AreWords}
use Rattle.linear_algebra.specs.Scalars.{Scalars, IsScalar}
use Rattle.linear_algebra.specs.Vectors.{IsVector}
use Rattle.small_fields.specs.FieldName.{field_orders}
use Rattle.parity_text.specs.Spelled.{position_words}
use Rattle.parity_text.specs.Values.{most_lines}
use Rattle.parity_text.specs.Spells.{SpellsVector}
use Rattle.text_forms.specs.Spelling.{AreNumerals, IsNameAndNumeral, SpellsPositions, counted_words}
use Rattle.text_forms.proofs.Numerals.{decimal-numeral, numeral-word}

pub each_of : {A : Type 0} (P : A → Type 0) (xs : List A) → All P xs → AllByRecursion P xs
each_of P [] h = tt
each_of P (x ∷ xs) h = (All-head P x xs h, each_of P xs (All-tail P x xs h))

pub each_means : {A : Type 0} (P Q : A → Type 0) → ((x : A) → P x → Q x) → (xs : List A) → AllByRecursion P xs → AllByRecursion Q xs
each_means P Q means [] h = tt
each_means P Q means (x ∷ xs) h = (means x h.0, each_means P Q means xs h.1)

pub each_append : {A : Type 0} (P : A → Type 0) (xs ys : List A) → AllByRecursion P xs → AllByRecursion P ys → AllByRecursion P (xs ++ ys)
each_append P [] ys h k = k
each_append P (x ∷ xs) ys h k = (h.0, each_append P xs ys h.1 k)

-- the order of a field is small
order_at : (n k : ℕ) → k < 5 → slice_index_or field_orders k n ≡ n → n ≤ 256
order_at n zero h e = omega (arith, e)
order_at n (suc zero) h e = omega (arith, e)
order_at n (suc (suc zero)) h e = omega (arith, e)
order_at n (suc (suc (suc zero))) h e = omega (arith, e)
order_at n (suc (suc (suc (suc zero)))) h e = omega (arith, e)
order_at n (suc (suc (suc (suc (suc k))))) h e = absurd (omega (arith, h))

pub order_is_small : (n : ℕ) → Contains field_orders n → n ≤ 256
order_is_small n h = order_at n h.0 h.1 h.2

numerals_of : (ns : List ℕ) → AllByRecursion (λ n. n < 10 ^ 9) ns → AreNumerals ns (map decimal ns)
numerals_of [] h = tt
numerals_of (n ∷ ns) h = (decimal-numeral n h.0, numerals_of ns h.1)

pub numerals_are_words : (ns : List ℕ) (ws : List (List ℕ)) → AreNumerals ns ws → AllByRecursion IsWord ws
numerals_are_words [] [] h = tt
numerals_are_words [] (w ∷ ws) h = absurd h
numerals_are_words (n ∷ ns) [] h = absurd h
numerals_are_words (n ∷ ns) (w ∷ ws) h = (numeral-word n w h.0, numerals_are_words ns ws h.1)

-- a vector, by the decimals of its entries
pub written_vector : (S : Scalars) (d : ℕ) (v : List ℕ) → S.order ≤ 256 → IsVector S d v → SpellsVector S.order d v (map decimal v)
written_vector S d v small h =
    let entries = each_of (IsScalar S) v h.entries in
    record {
      long = h.length_is;
      below = entries;
      numerals =
          numerals_of v (each_means (IsScalar S) (λ n. n < 10 ^ 9) (λ n lt. omega (arith, lt, small)) v entries);
    }

position_numerals : (ps : List ℕ) → AllByRecursion (λ p. p < most_lines) ps → AreNumerals (map (λ p. p + 1) ps) (position_words ps)
position_numerals [] h = tt
position_numerals (p ∷ ps) h = (decimal-numeral (p + 1) (omega (arith, h.0)), position_numerals ps h.1)

-- increasing positions, by the decimals of their numbers from 1
pub written_positions : (lines : ℕ) (ps : List ℕ) → lines ≤ most_lines → IsStrictlyIncreasing ps → All (λ m. m < lines) ps
    → SpellsPositions lines ps (position_words ps)
written_positions lines ps few increasing within =
    let below = each_of (λ m. m < lines) ps within in
    record {
      increasing = increasing;
      below = below;
      numerals =
          position_numerals ps (each_means (λ m. m < lines) (λ p. p < most_lines) (λ n lt. omega (arith, lt, few)) ps below);
    }

pub written_count : (name : List ℕ) (n : ℕ) → n < 10 ^ 9 → IsNameAndNumeral name n (counted_words name n)
written_count name n small = (decimal n, refl, decimal-numeral n small)

pub count_words : (name : List ℕ) (n : ℕ) → IsWord name → n < 10 ^ 9 → AreWords (counted_words name n)
count_words name n word small = record { some = omega arith; each = (word, (numeral-word n (decimal n) (decimal-numeral n small), tt)) }

-- a name and words
pub named_words : (name : List ℕ) (ws : List (List ℕ)) → IsWord name → AllByRecursion IsWord ws → AreWords (name ∷ ws)
named_words name ws word words = record { some = omega arith; each = (word, words) }
