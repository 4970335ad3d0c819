-- The lines of a text, one after the other.
use Rattle.std.proofs.Common.{◌≡◌, ℕ, zero, suc, ◌+◌, ◌<◌, ◌≤◌, List, [], ◌∷◌, length, Bool, true, false, not, cond, refl, arith, inl, inr}
use Rattle.std.specs.List.{slice_split, position_or_len, before_first, after_first}
use Rattle.std.specs.Prelude.{filter}
use Rattle.std.proofs.lemmas.Bool.{cases_lt, cases_Bool}
use Rattle.std.proofs.lemmas.List.{take_all, length-drop}
use Rattle.std.proofs.lemmas.List.Splits.{slice_split_first, slice_split-cons_no, length-slice_split}
use Rattle.std.proofs.Math.ListN.{drop_of_length-le}
use Rattle.line_lexer.specs.Bytes.{is_newline}
use Rattle.line_lexer.specs.Lines.{is_empty, without_empty_last, lines, Line, line_of, is_passed, numbered, lines_from}

pub is_empty-some : {A : Type 0} (xs : List A) → 0 < length xs → is_empty xs ≡ false
is_empty-some [] h = absurd (omega arith)
is_empty-some (x ∷ xs) h = refl

without_empty_last-cons : (x : List ℕ) (parts : List (List ℕ)) → 0 < length parts → without_empty_last (x ∷ parts) ≡ x ∷ without_empty_last parts
without_empty_last-cons x [] h = absurd (omega arith)
without_empty_last-cons x (y ∷ more) h = refl

-- no part is cut where no element passes
pub slice_split_uncut : (p : ℕ → Bool) (xs : List ℕ) → length xs ≤ position_or_len p xs → slice_split p xs ≡ xs ∷ []
slice_split_uncut p [] h = refl
slice_split_uncut p (x ∷ xs) h =
    elim (cases_Bool (p x)) [
      | inl holds ↦ let none : position_or_len p (x ∷ xs) ≡ 0 = rw holds refl in absurd (omega arith)
      | inr fails ↦
          let one : position_or_len p (x ∷ xs) ≡ 1 + position_or_len p xs = rw fails refl in
          rw (slice_split-cons_no p x xs fails, slice_split_uncut p xs (omega arith)) refl
    ]

pub lines_nil : lines [] ≡ []
unfolding lines
lines_nil = refl

-- the first line, and those of what comes after its newline
pub lines-cons : (bytes : List ℕ) → 0 < length bytes → lines bytes ≡ before_first is_newline bytes ∷ lines (after_first is_newline bytes)
unfolding lines
lines-cons bytes h =
    elim (cases_lt (position_or_len is_newline bytes) (length bytes)) [
      | inl lt ↦
          let some : 0 < length (slice_split is_newline (after_first is_newline bytes)) = omega (arith, length-slice_split is_newline (after_first is_newline bytes)) in
          rw (slice_split_first is_newline bytes 0 lt) (without_empty_last-cons _ _ some)
      | inr ge ↦
          let front : before_first is_newline bytes ≡ bytes = take_all _ bytes ge in
          let rest : after_first is_newline bytes ≡ [] = drop_of_length-le bytes (omega arith) in
          let full : is_empty bytes ≡ false = is_empty-some bytes h in
          rw (slice_split_uncut is_newline bytes ge, front, rest, full) refl
    ]

pub lines_from_nil : (n : ℕ) → lines_from n [] ≡ []
unfolding lines_from lines
lines_from_nil n = refl

abbrev pub unless_passed : Line → List Line → List Line
unless_passed line more = cond (is_passed line) more (line ∷ more)

not_passed : (b : Bool) (line : Line) (more : List Line) → cond (not b) (line ∷ more) more ≡ cond b more (line ∷ more)
not_passed true line more = refl
not_passed false line more = refl

-- the same, of the lines that aren't passed over
pub lines_from-cons : (n : ℕ) (bytes : List ℕ) → 0 < length bytes
    → lines_from n bytes ≡ unless_passed (line_of n (before_first is_newline bytes)) (lines_from (n + 1) (after_first is_newline bytes))
unfolding lines_from
lines_from-cons n bytes h = rw (lines-cons bytes h) (not_passed (is_passed (line_of n (before_first is_newline bytes))) (line_of n (before_first is_newline bytes)) (filter (λ line. not (is_passed line)) (numbered (n + 1) (lines (after_first is_newline bytes)))))

-- there are no more lines than bytes
lines_few : (fuel : ℕ) (bytes : List ℕ) → length bytes ≤ fuel → length (lines bytes) ≤ length bytes
lines_few zero [] h = rw lines_nil (omega arith)
lines_few zero (b ∷ bytes) h = absurd (omega arith)
lines_few (suc fuel) [] h = rw lines_nil (omega arith)
lines_few (suc fuel) (b ∷ bytes) h =
    let shorter : length (after_first is_newline (b ∷ bytes)) ≤ length bytes = omega (arith, length-drop (position_or_len is_newline (b ∷ bytes) + 1) (b ∷ bytes)) in
    let more = lines_few fuel (after_first is_newline (b ∷ bytes)) (omega arith) in
    rw (lines-cons (b ∷ bytes) (omega arith)) (omega (arith, more))

pub length_lines_le : (bytes : List ℕ) → length (lines bytes) ≤ length bytes
length_lines_le bytes = lines_few (length bytes) bytes (omega arith)
