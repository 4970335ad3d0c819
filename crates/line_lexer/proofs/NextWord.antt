-- The next word of a line, as the code finds it.
use Rattle.std.proofs.Common.{◌≡◌, ℕ, ◌+◌, ◌-◌, ◌<◌, ◌≤◌, List, [], ◌∷◌, length, take, drop, refl, arith, inl, inr}
use Rattle.std.specs.List.{position_or_len, slice_range}
use Rattle.std.proofs.lemmas.Bool.{cases_lt}
use Rattle.std.proofs.lemmas.Grind.{common_steps}
use Rattle.std.proofs.lemmas.List.{drop-take, drop-drop, length-take}
use Rattle.line_lexer.specs.Bytes.{is_word_byte, is_gap}
use Rattle.line_lexer.specs.Lines.{words}
use Rattle.line_lexer.specs.WordPlaces.{word_places}
use Rattle.line_lexer.proofs.WordPlaces.{word_places_nil, word_places-skip, word_places-cons}
use Rattle.line_lexer.proofs.Words.{words_nil, words-skip, words-cons, word_byte_first, word_is_some}

slice_range-drop : (bytes : List ℕ) (from k end : ℕ) → k ≤ end - from → slice_range bytes (from + k) end ≡ drop k (slice_range bytes from end)
slice_range-drop bytes from k end h =
    let e : end - from ≡ k + (end - (from + k)) = omega arith in
    rw (e, drop-take, drop-drop) refl

slice_range-take : (bytes : List ℕ) (from k end : ℕ) → k ≤ end - from → slice_range bytes from (from + k) ≡ take k (slice_range bytes from end)
slice_range-take bytes from k end h =
    let e : (from + k) - from ≡ k = omega arith in
    rw e (grind (arith, common_steps))

nil_of : (xs : List ℕ) → length xs ≤ 0 → xs ≡ []
nil_of [] h = refl
nil_of (x ∷ xs) h = absurd (omega arith)

no_word : (at : ℕ) (rest tail : List ℕ) (skipped len : ℕ) → skipped ≡ position_or_len is_word_byte rest → tail ≡ drop skipped rest → len ≡ position_or_len is_gap tail → len ≡ 0
    → (words rest ≡ []) × (word_places at rest ≡ [])
no_word at rest tail skipped len s t l none =
    elim (cases_lt 0 (length tail)) [
      | inl some ↦ let first : position_or_len is_word_byte tail ≡ 0 = rw (t, s) (word_byte_first rest) in absurd (omega (arith, word_is_some tail some first))
      | inr empty ↦ let nil : tail ≡ [] = nil_of tail empty in (rw (words-skip rest, ← s, ← t, nil) words_nil, rw (word_places-skip at rest, ← s, ← t, nil) (word_places_nil (at + skipped)))
    ]

a_word : (rest tail : List ℕ) (skipped len : ℕ) → skipped ≡ position_or_len is_word_byte rest → tail ≡ drop skipped rest → len ≡ position_or_len is_gap tail → 0 < len
    → words rest ≡ take len tail ∷ words (drop len tail)
a_word rest tail skipped len s t l some =
    let h : 0 < position_or_len is_gap tail = omega arith in
    rw (words-skip rest, ← s, ← t, words-cons tail h, ← l) refl

-- so many bytes are skipped before the next word, which has so many bytes
pub record IsNextWord (bytes : List ℕ) (word end skipped len : ℕ) : Type 0 where
  pub skips : skipped ≡ position_or_len is_word_byte (slice_range bytes word end)
  pub in_line : skipped ≤ length (slice_range bytes word end)
  pub ends : len ≡ position_or_len is_gap (slice_range bytes (word + skipped) end)
  pub in_tail : len ≤ length (slice_range bytes (word + skipped) end)

tail-is : (bytes : List ℕ) (word end skipped len : ℕ) → IsNextWord bytes word end skipped len → slice_range bytes (word + skipped) end ≡ drop skipped (slice_range bytes word end)
tail-is bytes word end skipped len p = slice_range-drop bytes word skipped end (omega (arith, p.in_line, length-take (end - word) (drop word bytes)))

pub no_word_at : (bytes : List ℕ) (word end skipped len : ℕ) → IsNextWord bytes word end skipped len → len ≡ 0
    → (words (slice_range bytes word end) ≡ []) × (word_places word (slice_range bytes word end) ≡ [])
no_word_at bytes word end skipped len p none = no_word word _ _ skipped len p.skips (tail-is bytes word end skipped len p) p.ends none

pub a_word_at : (bytes : List ℕ) (word end skipped len : ℕ) → IsNextWord bytes word end skipped len → 0 < len
    → words (slice_range bytes word end) ≡ slice_range bytes (word + skipped) (word + skipped + len) ∷ words (slice_range bytes (word + skipped + len) end)
a_word_at bytes word end skipped len p some =
    let short : len ≤ end - (word + skipped) = omega (arith, p.in_tail, length-take (end - (word + skipped)) (drop (word + skipped) bytes)) in
    rw (slice_range-take bytes (word + skipped) len end short, slice_range-drop bytes (word + skipped) len end short)
    (a_word _ _ skipped len p.skips (tail-is bytes word end skipped len p) p.ends some)

pub a_place_at : (bytes : List ℕ) (word end skipped len : ℕ) → IsNextWord bytes word end skipped len → 0 < len
    → word_places word (slice_range bytes word end) ≡ (word + skipped, word + skipped + len) ∷ word_places (word + skipped + len) (slice_range bytes (word + skipped + len) end)
a_place_at bytes word end skipped len p some =
    let short : len ≤ end - (word + skipped) = omega (arith, p.in_tail, length-take (end - (word + skipped)) (drop (word + skipped) bytes)) in
    let tail = tail-is bytes word end skipped len p in
    let h : 0 < position_or_len is_gap (slice_range bytes (word + skipped) end) = omega (arith, p.ends) in
    rw (slice_range-drop bytes (word + skipped) len end short, word_places-skip word (slice_range bytes word end), ← p.skips, ← tail, word_places-cons (word + skipped) (slice_range bytes (word + skipped) end) h, ← p.ends) refl

pub within_end : (bytes : List ℕ) (word end skipped len : ℕ) → IsNextWord bytes word end skipped len → 0 < len → word + skipped + len ≤ end
within_end bytes word end skipped len p some = omega (arith, p.in_tail, length-take (end - (word + skipped)) (drop (word + skipped) bytes))

pub words_at_end : (bytes : List ℕ) (end : ℕ) → (words (slice_range bytes end end) ≡ []) × (word_places end (slice_range bytes end end) ≡ [])
words_at_end bytes end = let e : end - end ≡ 0 = omega arith in rw e (words_nil, word_places_nil end)
