-- The words of a line are words, and its number is one of the text's.
use Rattle.std.proofs.Common.{◌≡◌, ℕ, suc, ◌+◌, ◌≤◌, List, [], ◌∷◌, length, inl, inr, true, false, not, refl, arith}
use Rattle.std.specs.Prelude.{filter}
use Rattle.std.specs.List.{AllByRecursion, list_all, slice_split, onto_first, before_first, position_or_len}
use Rattle.std.specs.Str.Lines.{strip_carriage_return}
use Rattle.std.proofs.lemmas.Bool.{cases_Bool, and_parts, and_from}
use Rattle.line_lexer.specs.Bytes.{is_hash, is_word_byte, is_gap, is_allowed}
use Rattle.line_lexer.specs.Lines.{is_empty, is_some_word, content, words, Line, line_of, is_passed, numbered, lines, lines_from}
use Rattle.line_lexer.specs.Words.{is_in_word, IsWord, AreWords, HasWords, IsNumberedWithin}

abbrev IsPart : List ℕ → Type 0
IsPart part = list_all is_in_word part ≡ true

onto-first : (b : ℕ) (parts : List (List ℕ)) → is_in_word b ≡ true → AllByRecursion IsPart parts → AllByRecursion IsPart (onto_first b parts)
onto-first b [] e h = (rw e refl, tt)
onto-first b (part ∷ parts) e h = (and_from (is_in_word b) (list_all is_in_word part) e h.0, h.1)

parts-of : (text : List ℕ) → list_all (λ b. not (is_hash b)) text ≡ true → AllByRecursion IsPart (slice_split is_gap text)
parts-of [] h = (refl, tt)
parts-of (b ∷ text) h =
    let here = and_parts (not (is_hash b)) (list_all (λ b. not (is_hash b)) text) h in
    let more = parts-of text here.1 in
    elim (cases_Bool (is_word_byte b)) [
      | inl holds ↦ rw holds (onto-first b (slice_split is_gap text) (and_from (is_word_byte b) (not (is_hash b)) holds here.0) more)
      | inr fails ↦ rw fails (refl, more)
    ]

some_parts : (parts : List (List ℕ)) → AllByRecursion IsPart parts → AllByRecursion IsWord (filter is_some_word parts)
some_parts [] h = tt
some_parts ([] ∷ parts) h = some_parts parts h.1
some_parts ((b ∷ part) ∷ parts) h = (record { some = omega arith; bytes = h.0 }, some_parts parts h.1)

no_hash : (text : List ℕ) → list_all (λ b. not (is_hash b)) (before_first is_hash text) ≡ true
no_hash [] = refl
no_hash (b ∷ text) =
    elim (cases_Bool (is_hash b)) [
      | inl holds ↦ let none : position_or_len is_hash (b ∷ text) ≡ 0 = rw holds refl in rw none refl
      | inr fails ↦ let one : position_or_len is_hash (b ∷ text) ≡ suc (position_or_len is_hash text) = rw fails (omega arith) in rw (one, fails) (no_hash text)
    ]

content-words : (line : List ℕ) → AllByRecursion IsWord (words (content line))
unfolding words content
content-words line = some_parts _ (parts-of (content line) (no_hash (strip_carriage_return line)))

some_words : (ws : List (List ℕ)) → is_empty ws ≡ false → AllByRecursion IsWord ws → AreWords ws
some_words [] e h = absurd (cc (e))
some_words (w ∷ ws) e h = record { some = omega arith; each = h }

line-words : (n : ℕ) (line : List ℕ) → is_passed (line_of n line) ≡ false → HasWords (line_of n line)
line-words n line e =
    elim (cases_Bool (list_all is_allowed (content line))) [
      | inl holds ↦ let left : is_empty (words (content line)) ≡ false = rw holds at e in rw holds (some_words _ left (content-words line))
      | inr fails ↦ rw fails tt
    ]

numbered-words : (n : ℕ) (ls : List (List ℕ)) → AllByRecursion HasWords (filter (λ line. not (is_passed line)) (numbered n ls))
numbered-words n [] = tt
numbered-words n (l ∷ ls) =
    elim (cases_Bool (is_passed (line_of n l))) [
      | inl holds ↦ rw holds (numbered-words (n + 1) ls)
      | inr fails ↦ rw fails (line-words n l fails, numbered-words (n + 1) ls)
    ]

-- the words of each line are words, and there is one
pub lines_from-words : (n : ℕ) (bytes : List ℕ) → AllByRecursion HasWords (lines_from n bytes)
unfolding lines_from
lines_from-words n bytes = numbered-words n (lines bytes)

sooner : (n end : ℕ) (ls : List Line) → AllByRecursion (IsNumberedWithin (n + 1) end) ls → AllByRecursion (IsNumberedWithin n end) ls
sooner n end [] h = tt
sooner n end (l ∷ ls) h = ((omega (arith, h.0.0), h.0.1), sooner n end ls h.1)

pub numbered-range : (n end : ℕ) (ls : List (List ℕ)) → n + length ls ≤ end → AllByRecursion (IsNumberedWithin n end) (filter (λ line. not (is_passed line)) (numbered n ls))
numbered-range n end [] h = tt
numbered-range n end (l ∷ ls) h =
    let more = sooner n end _ (numbered-range (n + 1) end ls (omega arith)) in
    elim (cases_Bool (is_passed (line_of n l))) [
      | inl holds ↦ rw holds more
      | inr fails ↦ rw fails ((omega arith, omega arith), more)
    ]

pub lines_from-range : (n : ℕ) (bytes : List ℕ) → AllByRecursion (IsNumberedWithin n (n + length (lines bytes))) (lines_from n bytes)
unfolding lines_from
lines_from-range n bytes = numbered-range n (n + length (lines bytes)) (lines bytes) (omega arith)
