-- The words of a line, one after the other.
use Rattle.std.proofs.Common.{◌≡◌, ℕ, suc, ◌<◌, List, [], ◌∷◌, length, take, drop, get_or, true, false, refl, arith, inl, inr, drop-cons, add-one}
use Rattle.std.specs.List.{position_or_len, before_first}
use Rattle.std.proofs.lemmas.Bool.{cases_lt, cases_Bool}
use Rattle.std.proofs.lemmas.Grind.{common_steps}
use Rattle.std.proofs.lemmas.List.{take_all, length-take}
use Rattle.std.proofs.lemmas.List.Sums.{passes_at_first}
use Rattle.std.proofs.lemmas.List.Splits.{slice_split_first, slice_split-cons_yes}
use Rattle.std.proofs.Math.ListN.{drop_of_length-le}
use Rattle.line_lexer.specs.Bytes.{is_word_byte, is_gap}
use Rattle.line_lexer.specs.Lines.{is_empty, words}
use Rattle.line_lexer.proofs.Positions.{position_or_len_within}
use Rattle.line_lexer.proofs.Lines.{is_empty-some, slice_split_uncut}

pub words_nil : words [] ≡ []
unfolding words
words_nil = refl

-- what stands before the first word is passed over
pub words-skip : (text : List ℕ) → words text ≡ words (drop (position_or_len is_word_byte text) text)
unfolding words
words-skip [] = refl
words-skip (b ∷ text) =
    elim (cases_Bool (is_word_byte b)) [
      | inl holds ↦ let none : position_or_len is_word_byte (b ∷ text) ≡ 0 = rw holds refl in rw none refl
      | inr fails ↦
          let one : position_or_len is_word_byte (b ∷ text) ≡ suc (position_or_len is_word_byte text) = rw fails (omega arith) in
          let gap : is_gap b ≡ true = rw fails refl in
          rw (slice_split-cons_yes is_gap b text gap, one) (words-skip text)
    ]

-- a word that stands at the front, and those of what comes after it
pub words-cons : (text : List ℕ) → 0 < position_or_len is_gap text
    → words text ≡ take (position_or_len is_gap text) text ∷ words (drop (position_or_len is_gap text) text)
unfolding words
words-cons text h =
    elim (cases_lt (position_or_len is_gap text) (length text)) [
      | inl lt ↦
          let some : is_empty (before_first is_gap text) ≡ false = is_empty-some _ (omega (arith, length-take (position_or_len is_gap text) text)) in
          let gap : is_gap (get_or text (position_or_len is_gap text) 0) ≡ true = passes_at_first is_gap text 0 lt in
          rw (slice_split_first is_gap text 0 lt, some, drop-cons text (position_or_len is_gap text) 0 lt, slice_split-cons_yes is_gap _ _ gap, add-one) refl
      | inr ge ↦
          let some : is_empty text ≡ false = is_empty-some text (omega (arith, position_or_len_within is_gap text)) in
          rw (slice_split_uncut is_gap text ge, some, take_all _ text ge, drop_of_length-le text ge) refl
    ]

-- a word or nothing stands there
pub word_byte_first : (text : List ℕ) → position_or_len is_word_byte (drop (position_or_len is_word_byte text) text) ≡ 0
word_byte_first text = grind (arith, common_steps, passes_at_first is_word_byte text 0, position_or_len_within is_word_byte text)

pub word_is_some : (text : List ℕ) → 0 < length text → position_or_len is_word_byte text ≡ 0 → 0 < position_or_len is_gap text
word_is_some [] h first = absurd (omega arith)
word_is_some (b ∷ text) h first =
    elim (cases_Bool (is_word_byte b)) [
      | inl holds ↦ rw holds (omega arith)
      | inr fails ↦ let one : position_or_len is_word_byte (b ∷ text) ≡ suc (position_or_len is_word_byte text) = rw fails (omega arith) in absurd (omega arith)
    ]
