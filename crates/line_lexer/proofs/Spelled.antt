-- A line of words that is written is read as that line.
use Rattle.std.proofs.Common.{◌≡◌, ℕ, zero, suc, ◌+◌, ◌-◌, ◌<◌, List, [], ◌∷◌, ◌++◌, length, get_or, inl, inr, Bool, true, false, not, refl, arith, append_assoc, Some}
use Rattle.std.specs.Prelude.{◌&&◌, ◌==◌}
use Rattle.std.specs.List.{AllByRecursion, list_all, position_or_len, before_first, after_first, join_with_byte}
use Rattle.std.proofs.lemmas.Bool.{cases_Bool, eqb-true, not-true, and_parts, and_from, or_right}
use Rattle.std.proofs.lemmas.List.Folds.{list_all-append}
use Rattle.std.proofs.lemmas.List.{length-append}
use Rattle.std.proofs.Math.Seq.{take-append_seam, drop-append_seam, drop-append-add, take-length}
use Rattle.std.proofs.Math.ListN.{drop_of_length-le}
use Rattle.line_lexer.specs.Bytes.{is_newline, is_hash, is_blank, is_word_byte, is_gap, is_allowed}
use Rattle.line_lexer.specs.Lines.{content, words, lines, lines_from}
use Rattle.line_lexer.specs.Words.{is_in_word, IsWord, AreWords, line_text, spelled, as_lines}
use Rattle.line_lexer.proofs.Lines.{lines-cons, lines_from-cons}
use Rattle.line_lexer.proofs.Words.{words_nil, words-cons}

-- what a line of words may have
abbrev is_text : ℕ → Bool
is_text b = is_allowed b && not (is_hash b)

-- where the first element stands that passes, after a front in which none does
pub front_len : (p : ℕ → Bool) (front : List ℕ) (y : ℕ) (ys : List ℕ) → list_all (λ b. not (p b)) front ≡ true → p y ≡ true → position_or_len p (front ++ y ∷ ys) ≡ length front
front_len p [] y ys h e = rw e refl
front_len p (x ∷ xs) y ys h e =
    elim (cases_Bool (p x)) [
      | inl holds ↦ absurd (grind (arith, h, holds))
      | inr fails ↦ let more : list_all (λ b. not (p b)) xs ≡ true = rw fails at h in rw (fails, front_len p xs y ys more e) (omega arith)
    ]

all_len : (p : ℕ → Bool) (xs : List ℕ) → list_all (λ b. not (p b)) xs ≡ true → position_or_len p xs ≡ length xs
all_len p [] h = refl
all_len p (x ∷ xs) h =
    elim (cases_Bool (p x)) [
      | inl holds ↦ absurd (grind (arith, h, holds))
      | inr fails ↦ let more : list_all (λ b. not (p b)) xs ≡ true = rw fails at h in rw (fails, all_len p xs more) (omega arith)
    ]

-- what passes a test passes a weaker one
pub list_all_weaker : (p q : ℕ → Bool) → ((b : ℕ) → p b ≡ true → q b ≡ true) → (xs : List ℕ) → list_all p xs ≡ true → list_all q xs ≡ true
list_all_weaker p q w [] h = refl
list_all_weaker p q w (x ∷ xs) h =
    elim (cases_Bool (p x)) [
      | inl holds ↦ let more : list_all p xs ≡ true = rw holds at h in rw (w x holds) (list_all_weaker p q w xs more)
      | inr fails ↦ let none : false ≡ true = rw fails at h in absurd (cc (none))
    ]

differs : (p : ℕ → Bool) (k : ℕ) → p k ≡ false → (b : ℕ) → p b ≡ true → not (b == k) ≡ true
differs p k out b e =
    elim (cases_Bool (b == k)) [
      | inl holds ↦ let same : b ≡ k = eqb-true _ _ holds in let in' : p k ≡ true = rw same at e in absurd (cc (out, in'))
      | inr fails ↦ rw fails refl
    ]

line-front : (text rest : List ℕ) → list_all is_text text ≡ true → (before_first is_newline (text ++ 10 ∷ rest) ≡ text) × (after_first is_newline (text ++ 10 ∷ rest) ≡ rest)
line-front text rest h =
    let at : position_or_len is_newline (text ++ 10 ∷ rest) ≡ length text = front_len is_newline text 10 rest (list_all_weaker is_text _ (differs is_text 10 refl) text h) refl in
    (rw at (take-append_seam text (10 ∷ rest)), rw (at, drop-append-add text (10 ∷ rest) 1) refl)

index_passes : (q : ℕ → Bool) → q 0 ≡ true → (text : List ℕ) → list_all q text ≡ true → (i : ℕ) → q (get_or text i 0) ≡ true
index_passes q zero_passes [] h i = zero_passes
index_passes q zero_passes (x ∷ xs) h zero = (and_parts (q x) (list_all q xs) h).0
index_passes q zero_passes (x ∷ xs) h (suc i) = index_passes q zero_passes xs (and_parts (q x) (list_all q xs) h).1 i

content-same : (text : List ℕ) → list_all is_text text ≡ true → content text ≡ text
unfolding content
content-same text h =
    let no_return : (get_or text (length text - 1) 0 == 13) ≡ false = not-true _ (index_passes (λ b. not (b == 13)) refl text (list_all_weaker is_text _ (differs is_text 13 refl) text h) (length text - 1)) in
    let no_hash : position_or_len is_hash text ≡ length text = all_len is_hash text (list_all_weaker is_text _ (differs is_text 35 refl) text h) in
    rw (no_return, no_hash) (take-length text)

no_gap : (b : ℕ) → is_in_word b ≡ true → not (is_gap b) ≡ true
no_gap b e = let part : is_word_byte b ≡ true = (and_parts (is_word_byte b) (not (is_hash b)) e).0 in rw part refl

past_blank : (text : List ℕ) → words (32 ∷ text) ≡ words text
unfolding words
past_blank text = refl

-- words with one space between them
words-joined : (ws : List (List ℕ)) → AllByRecursion IsWord ws → words (join_with_byte 32 ws) ≡ ws
words-joined [] h = words_nil
words-joined (w ∷ []) h =
    let some = h.0.some in
    let at : position_or_len is_gap w ≡ length w = all_len is_gap w (list_all_weaker is_in_word _ no_gap w h.0.bytes) in
    rw (words-cons w (omega arith), at, take-length w, drop_of_length-le w {i = length w} (omega arith), words_nil) refl
words-joined (w ∷ v ∷ vs) h =
    let some = h.0.some in
    let t : List ℕ = join_with_byte 32 (v ∷ vs) in
    let at : position_or_len is_gap (w ++ 32 ∷ t) ≡ length w = front_len is_gap w 32 t (list_all_weaker is_in_word _ no_gap w h.0.bytes) refl in
    rw (words-cons (w ++ 32 ∷ t) (omega arith), at, take-append_seam w (32 ∷ t), drop-append_seam w (32 ∷ t), past_blank t, words-joined (v ∷ vs) h.1) refl

text_in : (b : ℕ) → is_in_word b ≡ true → is_text b ≡ true
text_in b e =
    let parts = and_parts (is_word_byte b) (not (is_hash b)) e in
    and_from (is_allowed b) (not (is_hash b)) (or_right (is_blank b) _ parts.0) parts.1

text-joined : (ws : List (List ℕ)) → AllByRecursion IsWord ws → list_all is_text (join_with_byte 32 ws) ≡ true
text-joined [] h = refl
text-joined (w ∷ []) h = list_all_weaker is_in_word is_text text_in w h.0.bytes
text-joined (w ∷ v ∷ vs) h =
    rw (list_all-append is_text w (32 ∷ join_with_byte 32 (v ∷ vs)), list_all_weaker is_in_word is_text text_in w h.0.bytes, text-joined (v ∷ vs) h.1) refl

allowed_in : (b : ℕ) → is_text b ≡ true → is_allowed b ≡ true
allowed_in b e = (and_parts (is_allowed b) (not (is_hash b)) e).0

-- a line of words in front of a text is its first line
lines_from-line : (n : ℕ) (w : List ℕ) (ws : List (List ℕ)) (rest : List ℕ) → AllByRecursion IsWord (w ∷ ws)
    → lines_from n (line_text (w ∷ ws) ++ rest) ≡ record { number = n; words = Some (w ∷ ws) } ∷ lines_from (n + 1) rest
unfolding line_text
lines_from-line n w ws rest h =
    let t : List ℕ = join_with_byte 32 (w ∷ ws) in
    let plain = text-joined (w ∷ ws) h in
    let front = line-front t rest plain in
    let same : content t ≡ t = content-same t plain in
    let allowed : list_all is_allowed t ≡ true = list_all_weaker is_text is_allowed allowed_in t plain in
    let some : 0 < length (t ++ 10 ∷ rest) = omega (arith, length-append t (10 ∷ rest)) in
    rw (append_assoc t (10 ∷ []) rest, lines_from-cons n (t ++ 10 ∷ rest) some, front.0, front.1, same, allowed, words-joined (w ∷ ws) h) refl

-- and one line more is counted
length-lines-line : (w : List ℕ) (ws : List (List ℕ)) (rest : List ℕ) → AllByRecursion IsWord (w ∷ ws)
    → length (lines (line_text (w ∷ ws) ++ rest)) ≡ 1 + length (lines rest)
unfolding line_text
length-lines-line w ws rest h =
    let t : List ℕ = join_with_byte 32 (w ∷ ws) in
    let front = line-front t rest (text-joined (w ∷ ws) h) in
    let some : 0 < length (t ++ 10 ∷ rest) = omega (arith, length-append t (10 ∷ rest)) in
    rw (append_assoc t (10 ∷ []) rest, lines-cons (t ++ 10 ∷ rest) some, front.1) (omega arith)

-- lines of words that are written are read as those lines, whatever follows
pub lines_from-spelled : (n : ℕ) (ls : List (List (List ℕ))) (rest : List ℕ) → AllByRecursion AreWords ls
    → lines_from n (spelled ls ++ rest) ≡ as_lines n ls ++ lines_from (n + length ls) rest
unfolding spelled
lines_from-spelled n [] rest h = let e : n + 0 ≡ n = omega arith in rw e refl
lines_from-spelled n ([] ∷ ls) rest h = let some = h.0.some in absurd (omega arith)
lines_from-spelled n ((w ∷ ws) ∷ ls) rest h =
    let e : n + suc (length ls) ≡ (n + 1) + length ls = omega arith in
    rw (append_assoc (line_text (w ∷ ws)) (spelled ls) rest, lines_from-line n w ws (spelled ls ++ rest) h.0.each, lines_from-spelled (n + 1) ls rest h.1, e) refl

pub length-lines-spelled : (ls : List (List (List ℕ))) (rest : List ℕ) → AllByRecursion AreWords ls
    → length (lines (spelled ls ++ rest)) ≡ length ls + length (lines rest)
unfolding spelled
length-lines-spelled [] rest h = omega arith
length-lines-spelled ([] ∷ ls) rest h = let some = h.0.some in absurd (omega arith)
length-lines-spelled ((w ∷ ws) ∷ ls) rest h =
    rw (append_assoc (line_text (w ∷ ws)) (spelled ls) rest, length-lines-line w ws (spelled ls ++ rest) h.0.each, length-lines-spelled ls rest h.1) (omega arith)
