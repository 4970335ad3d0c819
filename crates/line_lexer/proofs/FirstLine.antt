-- The first line of a text, as the code finds it.
use Rattle.std.proofs.Common.{◌≡◌, ℕ, ◌+◌, ◌-◌, ◌<◌, ◌≤◌, min, List, [], ◌∷◌, length, take, drop, true, false, cond, refl, sym, ap, ◌∙◌, arith, inl, inr, None, Some, length-drop}
use Rattle.std.specs.Prelude.{slice_index, ◌==◌}
use Rattle.std.specs.List.{position_or_len, before_first, after_first, list_all, slice_range}
use Rattle.std.specs.Str.Lines.{strip_carriage_return}
use Rattle.std.proofs.lemmas.Bool.{cases_Bool}
use Rattle.std.proofs.lemmas.Grind.{common_steps}
use Rattle.std.proofs.lemmas.List.{length-take, drop-take}
use Rattle.std.proofs.Math.ListN.{drop_of_length-le}
use Rattle.line_lexer.specs.Bytes.{is_newline, is_hash, is_word_byte, is_gap, is_allowed}
use Rattle.line_lexer.specs.Lines.{content, words, Line, is_passed, lines, lines_from}
use Rattle.line_lexer.specs.WordPlaces.{word_places}
use Rattle.line_lexer.proofs.Positions.{position_or_len_within}
use Rattle.line_lexer.proofs.Lines.{lines-cons, lines_from-cons}
use Rattle.line_lexer.proofs.WordPlaces.{word_places-skip}
use Rattle.line_lexer.proofs.Words.{words_nil, words-skip, words-cons, word_byte_first, word_is_some}

-- a line without its carriage return is a front of it
strip-front : (l : List ℕ) (k : ℕ) → k ≤ length (strip_carriage_return l) → (k ≤ length l) × (take k (strip_carriage_return l) ≡ take k l)
strip-front l k h =
    elim (cases_Bool (slice_index l (length l - 1) == 13)) [
      | inl holds ↦ let e : strip_carriage_return l ≡ take (length l - 1) l = rw holds refl in
          let k-le : k ≤ length (take (length l - 1) l) = rw e at h in
          (omega (arith, length-take (length l - 1) l), rw e (grind (arith, common_steps)))
      | inr fails ↦ let e : strip_carriage_return l ≡ l = rw fails refl in (rw e at h, rw e refl)
    ]

-- the content of the line that ends at len ends at end
pub record IsContent (text line : List ℕ) (len end : ℕ) : Type 0 where
  pub is : content (take len text) ≡ take end text
  pub taken : take end line ≡ take end text
  pub within : end ≤ length text

pub content-is : (text line : List ℕ) (len end : ℕ) → line ≡ strip_carriage_return (take len text) → end ≡ position_or_len is_hash line → IsContent text line len end
unfolding content
content-is text line len end e p =
    let short : end ≤ length (strip_carriage_return (take len text)) = rw (p, e) (position_or_len_within is_hash (strip_carriage_return (take len text))) in
    let f = strip-front (take len text) end short in
    let same : take end (take len text) ≡ take end text = grind (arith, common_steps, f.0) in
    record {
      is = rw (← e, ← p, e) (f.1 ∙ same);
      taken = rw e (f.1 ∙ same);
      within = omega (arith, f.0, length-take len text);
    }

drop-min : (k : ℕ) (text : List ℕ) → drop (min k (length text)) text ≡ drop k text
drop-min k text = grind (arith, common_steps, drop_of_length-le text)

-- the first line ends at len and its content at end, and the lines after it begin at next
pub record Found (text line : List ℕ) (len end next : ℕ) : Type 0 where
  pub some : 0 < length text
  pub len_is : len ≡ position_or_len is_newline text
  pub next_is : next ≡ min (len + 1) (length text)
  pub content : IsContent text line len end

after-is : (text line : List ℕ) (len end next : ℕ) → Found text line len end next → after_first is_newline text ≡ drop next text
after-is text line len end next f = rw (f.next_is, drop-min, f.len_is) refl

abbrev line_with : ℕ → List ℕ → Line
line_with n part = record { number = n; words = cond (list_all is_allowed part) (Some (words part)) None }

first-is : (text line : List ℕ) (len end next : ℕ) → Found text line len end next
    → (n : ℕ) → lines_from n text ≡ cond (is_passed (line_with n (take end text))) (lines_from (n + 1) (drop next text)) (line_with n (take end text) ∷ lines_from (n + 1) (drop next text))
first-is text line len end next f n =
    let before : before_first is_newline text ≡ take len text = ap (λ (k : ℕ). take k text) (sym f.len_is) in
    let after : after_first is_newline text ≡ drop next text = after-is text line len end next f in
    rw (lines_from-cons n text f.some, before, after, f.content.is) refl

-- where the next line begins, one line less is left
pub lines_after_first : (text : List ℕ) (len next : ℕ) → 0 < length text → len ≡ position_or_len is_newline text → next ≡ min (len + 1) (length text)
    → length (lines text) ≡ 1 + length (lines (drop next text))
lines_after_first text len next some len_is next_is =
    let after : after_first is_newline text ≡ drop next text = rw (next_is, drop-min, len_is) refl in
    rw (lines-cons text some, after) (omega arith)

pub is_bad : (text line : List ℕ) (len end next : ℕ) → Found text line len end next → list_all is_allowed (take end line) ≡ false
    → (n : ℕ) → lines_from n text ≡ record { number = n; words = None } ∷ lines_from (n + 1) (drop next text)
is_bad text line len end next f bad n =
    let e : list_all is_allowed (take end text) ≡ false = rw (← f.content.taken) bad in
    rw (first-is text line len end next f n, e) refl

pub is_passed_over : (text line : List ℕ) (len end next start : ℕ) → Found text line len end next → list_all is_allowed (take end line) ≡ true
    → start ≡ position_or_len is_word_byte (take end line) → length (take end line) ≤ start
    → (n : ℕ) → lines_from n text ≡ lines_from (n + 1) (drop next text)
is_passed_over text line len end next start f plain first no_word n =
    let e : list_all is_allowed (take end text) ≡ true = rw (← f.content.taken) plain in
    let none : words (take end text) ≡ [] = rw (← f.content.taken, words-skip (take end line), ← first, drop_of_length-le (take end line) no_word) words_nil in
    rw (first-is text line len end next f n, e, none) refl

range-is : (text : List ℕ) (start end : ℕ) → start ≤ end → drop start (take end text) ≡ slice_range text start end
range-is text start end h = let e : end ≡ start + (end - start) = omega arith in ap (λ (k : ℕ). drop start (take k text)) e ∙ drop-take start (end - start) text

pub has_words : (text line : List ℕ) (len end next start : ℕ) → Found text line len end next → list_all is_allowed (take end line) ≡ true
    → start ≡ position_or_len is_word_byte (take end line) → start < length (take end line)
    → (n : ℕ) → lines_from n text ≡ record { number = n; words = Some (words (slice_range text start end)) } ∷ lines_from (n + 1) (drop next text)
has_words text line len end next start f plain first word n =
    let e : list_all is_allowed (take end text) ≡ true = rw (← f.content.taken) plain in
    let part : List ℕ = drop start (take end line) in
    let at : position_or_len is_word_byte part ≡ 0 = rw first (word_byte_first (take end line)) in
    let some = words-cons part (word_is_some part (omega (arith, length-drop start (take end line))) at) in
    let same : drop start (take end text) ≡ slice_range text start end = range-is text start end (omega (arith, length-take end line)) in
    let skip : words (take end text) ≡ words (slice_range text start end) = rw (← same, ← f.content.taken, first) (words-skip (take end line)) in
    let shown : words (slice_range text start end) ≡ take (position_or_len is_gap part) part ∷ words (drop (position_or_len is_gap part) part) = rw (← same, ← f.content.taken) some in
    rw (first-is text line len end next f n, e, skip, shown) refl

-- the words stand where those of the content do
pub has_places : (text line : List ℕ) (len end next start : ℕ) → Found text line len end next → start ≡ position_or_len is_word_byte (take end line) → start < length (take end line)
    → (at : ℕ) → word_places (at + start) (slice_range text start end) ≡ word_places at (content (before_first is_newline text))
has_places text line len end next start f first word at =
    let before : before_first is_newline text ≡ take len text = ap (λ (k : ℕ). take k text) (sym f.len_is) in
    let same : drop start (take end text) ≡ slice_range text start end = range-is text start end (omega (arith, length-take end line)) in
    rw (before, f.content.is, ← same, ← f.content.taken, first) (sym (word_places-skip at (take end line)))
