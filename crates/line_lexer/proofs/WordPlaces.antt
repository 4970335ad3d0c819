-- The places of the words of a line, one after the other, and where lines begin.
use Rattle.std.proofs.Common.{◌≡◌, ℕ, zero, suc, ◌+◌, ◌<◌, List, [], ◌∷◌, length, drop, get_or, true, false, refl, ap, arith, inl, inr, drop-cons, add-one}
use Rattle.std.specs.List.{position_or_len, before_first, after_first}
use Rattle.std.proofs.lemmas.Bool.{cases_lt, cases_Bool}
use Rattle.std.proofs.lemmas.Grind.{common_steps}
use Rattle.std.proofs.lemmas.List.{length-take}
use Rattle.std.proofs.lemmas.List.Sums.{passes_at_first}
use Rattle.std.proofs.lemmas.List.Splits.{slice_split_first, slice_split-cons_yes}
use Rattle.std.proofs.Math.ListN.{drop_of_length-le}
use Rattle.line_lexer.specs.Bytes.{is_newline, is_word_byte, is_gap}
use Rattle.line_lexer.specs.Lines.{is_empty}
use Rattle.line_lexer.specs.WordPlaces.{word_places, line_start}
use Rattle.line_lexer.proofs.Positions.{position_or_len_within}
use Rattle.line_lexer.proofs.Lines.{is_empty-some, slice_split_uncut}

pub word_places_nil : (at : ℕ) → word_places at [] ≡ []
unfolding word_places
word_places_nil at = refl

-- what stands before the first word is passed over
pub word_places-skip : (at : ℕ) (text : List ℕ) → word_places at text ≡ word_places (at + position_or_len is_word_byte text) (drop (position_or_len is_word_byte text) text)
unfolding word_places
word_places-skip at [] = refl
word_places-skip at (b ∷ text) =
    elim (cases_Bool (is_word_byte b)) [
      | inl holds ↦ let none : position_or_len is_word_byte (b ∷ text) ≡ 0 = rw holds refl in let same : at + 0 ≡ at = omega arith in rw (none, same) refl
      | inr fails ↦
          let one : position_or_len is_word_byte (b ∷ text) ≡ suc (position_or_len is_word_byte text) = rw fails (omega arith) in
          let gap : is_gap b ≡ true = rw fails refl in
          let same : (at + 1) + position_or_len is_word_byte text ≡ at + suc (position_or_len is_word_byte text) = omega arith in
          rw (slice_split-cons_yes is_gap b text gap, one, ← same) (word_places-skip (at + 1) text)
    ]

-- the place of a word that stands at the front, and those of what comes after it
pub word_places-cons : (at : ℕ) (text : List ℕ) → 0 < position_or_len is_gap text
    → word_places at text ≡ (at, at + position_or_len is_gap text) ∷ word_places (at + position_or_len is_gap text) (drop (position_or_len is_gap text) text)
unfolding word_places
word_places-cons at text h =
    elim (cases_lt (position_or_len is_gap text) (length text)) [
      | inl lt ↦
          let long : length (before_first is_gap text) ≡ position_or_len is_gap text = omega (arith, length-take (position_or_len is_gap text) text) in
          let some : is_empty (before_first is_gap text) ≡ false = is_empty-some _ (omega arith) in
          let gap : is_gap (get_or text (position_or_len is_gap text) 0) ≡ true = passes_at_first is_gap text 0 lt in
          rw (slice_split_first is_gap text 0 lt, some, long, drop-cons text (position_or_len is_gap text) 0 lt, slice_split-cons_yes is_gap _ _ gap, add-one) refl
      | inr ge ↦
          let some : is_empty text ≡ false = is_empty-some text (omega (arith, position_or_len_within is_gap text)) in
          let all : position_or_len is_gap text ≡ length text = omega (arith, position_or_len_within is_gap text) in
          rw (slice_split_uncut is_gap text ge, some, drop_of_length-le text ge, all) refl
    ]

-- the line after the one that begins here
pub line_start-next : (n : ℕ) (bytes : List ℕ) → line_start (suc n) bytes ≡ line_start n bytes + (position_or_len is_newline (drop (line_start n bytes) bytes) + 1)
unfolding line_start
line_start-next zero bytes = omega arith
line_start-next (suc n) bytes =
    let next = line_start-next n (after_first is_newline bytes) in
    let same : drop (line_start n (after_first is_newline bytes)) (after_first is_newline bytes) ≡ drop (position_or_len is_newline bytes + 1 + line_start n (after_first is_newline bytes)) bytes = grind (arith, common_steps) in
    let here : position_or_len is_newline (drop (line_start n (after_first is_newline bytes)) (after_first is_newline bytes)) ≡ position_or_len is_newline (drop (position_or_len is_newline bytes + 1 + line_start n (after_first is_newline bytes)) bytes) = ap (λ (t : List ℕ). position_or_len is_newline t) same in
    omega (arith, next, here)
