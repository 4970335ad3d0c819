-- Parts of a text by their places in it.
use Rattle.std.proofs.Common.{◌≡◌, ℕ, ◌+◌, ◌-◌, ◌≤◌, ◌<◌, min, List, [], ◌∷◌, take, drop, length, refl, ◌∙◌, arith, length-drop, Some, add-one}
use Rattle.std.proofs.lemmas.Grind.{common_steps}
use Rattle.std.proofs.lemmas.List.{take_rest}
use Rattle.std.proofs.Math.ListN.{drop_of_length-le}
use Rattle.std.specs.List.{slice_range, position_or_len, before_first, after_first}
use Rattle.line_lexer.specs.Bytes.{is_newline}
use Rattle.line_lexer.specs.Lines.{lines, lines_from, words, content}
use Rattle.line_lexer.specs.Seen.{IsPlace}
use Rattle.line_lexer.specs.WordPlaces.{word_places, line_start, places_on}
use Rattle.line_lexer.proofs.Lines.{lines_nil, lines-cons, lines_from_nil}
use Rattle.line_lexer.proofs.WordPlaces.{line_start-next}

pub lines_from_end : (n at : ℕ) (bytes : List ℕ) → length bytes ≤ at → lines_from n (drop at bytes) ≡ []
lines_from_end n at bytes h = rw (drop_of_length-le bytes h) (lines_from_nil n)

pub lines_end : (at : ℕ) (bytes : List ℕ) → length bytes ≤ at → length (lines (drop at bytes)) ≡ 0
lines_end at bytes h = rw (drop_of_length-le bytes h, lines_nil) refl

pub drop_twice : (bytes : List ℕ) (at k : ℕ) → drop k (drop at bytes) ≡ drop (at + k) bytes
drop_twice bytes at k = grind (arith, common_steps)

part_at : (bytes : List ℕ) (at start end : ℕ) → slice_range (drop at bytes) start end ≡ slice_range bytes (at + start) (at + end)
part_at bytes at start end = let e : (at + end) - (at + start) ≡ end - start = omega arith in rw (drop_twice bytes at start, e) refl

-- a line of the rest of a text, by its places in the whole text
pub line_at : (n at next start end : ℕ) (bytes rest : List ℕ) → rest ≡ take (length bytes - at) (drop at bytes)
    → lines_from n rest ≡ record { number = n; words = Some (words (slice_range rest start end)) } ∷ lines_from (n + 1) (drop next rest)
    → lines_from n (drop at bytes) ≡ record { number = n; words = Some (words (slice_range bytes (at + start) (at + end))) } ∷ lines_from (n + 1) (drop (at + next) bytes)
line_at n at next start end bytes rest e h =
    let whole : rest ≡ drop at bytes = e ∙ take_rest bytes at in
    rw (← part_at bytes at start end, ← drop_twice bytes at next, ← whole) h

-- and a line that is passed over
pub passed_at : (n at next : ℕ) (bytes rest : List ℕ) → rest ≡ take (length bytes - at) (drop at bytes) → lines_from n rest ≡ lines_from (n + 1) (drop next rest)
    → lines_from n (drop at bytes) ≡ lines_from (n + 1) (drop (at + next) bytes)
passed_at n at next bytes rest e h = let whole : rest ≡ drop at bytes = e ∙ take_rest bytes at in rw (← drop_twice bytes at next, ← whole) h

after_newline : (text : List ℕ) (at len : ℕ) → drop (len + 1) (drop at text) ≡ drop (min (at + len + 1) (length text)) text
after_newline text at len = grind (arith, common_steps, drop_of_length-le text)

-- from the next line on there is one line less
pub count_next : (text rest : List ℕ) (at len : ℕ) → at < length text → rest ≡ take (length text - at) (drop at text) → len ≡ position_or_len is_newline rest
    → length (lines (drop at text)) ≡ 1 + length (lines (drop (min (at + len + 1) (length text)) text))
count_next text rest at len h e p =
    let whole : rest ≡ drop at text = e ∙ take_rest text at in
    let some : 0 < length (drop at text) = omega (arith, length-drop at text) in
    let next : after_first is_newline (drop at text) ≡ drop (min (at + len + 1) (length text)) text = rw (← whole, ← p, whole) (after_newline text at len) in
    rw (lines-cons (drop at text) some, next) (omega arith)

-- the count from a place on, and from the place after its first line
pub count_after : (bytes rest : List ℕ) (at next total passed : ℕ) → rest ≡ take (length bytes - at) (drop at bytes)
    → length (lines rest) ≡ 1 + length (lines (drop next rest))
    → passed + length (lines (drop at bytes)) ≡ total
    → (passed + 1) + length (lines (drop (at + next) bytes)) ≡ total
count_after bytes rest at next total passed e h so_far =
    let whole : rest ≡ drop at bytes = e ∙ take_rest bytes at in
    let here : length (lines (drop at bytes)) ≡ 1 + length (lines (drop (at + next) bytes)) = rw (← drop_twice bytes at next, ← whole) h in
    omega arith

-- where there is a byte, a line begins there
starts_at : (bytes : List ℕ) (at passed : ℕ) → IsPlace bytes at passed → at < length bytes → line_start passed bytes ≡ at
starts_at bytes at passed p h = omega (arith, p.begins)

-- the place behind the line that begins at one
pub next_place : (bytes rest : List ℕ) (at next passed : ℕ) → IsPlace bytes at passed → at < length bytes → rest ≡ take (length bytes - at) (drop at bytes)
    → next ≡ min (position_or_len is_newline rest + 1) (length rest) → length (lines rest) ≡ 1 + length (lines (drop next rest)) → IsPlace bytes (at + next) (passed + 1)
next_place bytes rest at next passed p h e n count =
    let whole : rest ≡ drop at bytes = e ∙ take_rest bytes at in
    let long : length rest ≡ length bytes - at = rw whole (length-drop at bytes) in
    let start = starts_at bytes at passed p h in
    let step : line_start (passed + 1) bytes ≡ at + (position_or_len is_newline rest + 1) = rw (add-one, line_start-next passed bytes, start, whole) refl in
    record {
      few = p.few;
      within = omega (arith, n, long);
      short = omega (arith, n, long, p.short);
      begins = omega (arith, n, long, step);
      counted = count_after bytes rest at next (length (lines bytes)) passed e count p.counted;
    }

-- the words that are found on a line stand there
pub stand_on_line : (bytes rest : List ℕ) (at passed start end : ℕ) → IsPlace bytes at passed → at < length bytes → rest ≡ take (length bytes - at) (drop at bytes)
    → word_places (at + start) (slice_range rest start end) ≡ word_places at (content (before_first is_newline rest))
    → word_places (at + start) (slice_range bytes (at + start) (at + end)) ≡ places_on bytes (passed + 1)
unfolding places_on
stand_on_line bytes rest at passed start end p h e found =
    let whole : rest ≡ drop at bytes = e ∙ take_rest bytes at in
    let before : (passed + 1) - 1 ≡ passed = omega arith in
    rw (before, starts_at bytes at passed p h, ← part_at bytes at start end, ← whole) found
