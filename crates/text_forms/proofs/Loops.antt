-- Reading one place after the other, as a loop does: what was read before, and what is still read, are all that is read.
use Rattle.std.proofs.Common.{◌≡◌, ℕ, suc, ◌+◌, ◌-◌, ◌<◌, ◌≤◌, List, [], ◌∷◌, ◌++◌, length, max, None, Some, Option, Result, Ok, Err}
use Rattle.std.proofs.Common.{refl, sym, ap, ◌∙◌, append_assoc, arith}
use Rattle.std.proofs.lemmas.List.{append-nil}
use Rattle.line_lexer.specs.declared.refusal.TextRefusal.{TextRefusal}
use Rattle.line_lexer.specs.declared.refusal.TextRefusal.TheVariants.{Bad, Limit, OutOfMemory}
use Rattle.text_forms.specs.Reading.{Reads, ◌>>=◌, go_on, give}
use Rattle.text_forms.specs.Places.{position, position_or_end, positions_above, some_positions, times}
use Rattle.text_forms.specs.Gives.{Fails}
use Rattle.text_forms.proofs.Taking.{bind_ok, given, same_given}
use Rattle.text_forms.proofs.PlacesTake.{Takes-position}

-- what was read before stands in front of what is still read
abbrev pub with_front : {T A : Type 0} → List A → Result (List A × List T) TextRefusal → Result (List A × List T) TextRefusal
with_front front (Ok x) = Ok (front ++ x.0, x.1)
with_front front (Err e) = Err e

pub with_front_nil : {T A : Type 0} (read : Result (List A × List T) TextRefusal) → with_front [] read ≡ read
with_front_nil (Ok x) = refl
with_front_nil (Err e) = refl

with_one : {T A : Type 0} (front : List A) (x : A) (at : ℕ) (read : Result (List A × List T) TextRefusal)
    → with_front front (go_on (λ xs. give (x ∷ xs)) at read) ≡ with_front (front ++ x ∷ []) read
with_one {T = T} {A = A} front x at (Ok y) = ap (λ (xs : List A). Ok (xs, y.1)) (sym (append_assoc front (x ∷ []) y.0))
with_one front x at (Err e) = refl

-- where a place fails, all fails
with_fault : {T A B : Type 0} (next : A → Reads T (List B)) (front : List B) (at : ℕ) (e : TextRefusal)
    (read : Result (A × List T) TextRefusal) (total : Result (List B × List T) TextRefusal)
    → with_front front (go_on next at read) ≡ total → Fails e read → Fails e total
with_fault next front at OutOfMemory read total so_far h = tt
with_fault next front at (Bad line kind) read total so_far h = sym so_far ∙ ap (λ r. with_front front (go_on next at r)) h
with_fault next front at (Limit what found) read total so_far h = sym so_far ∙ ap (λ r. with_front front (go_on next at r)) h

-- ---- the same reader so many times

pub times_goes_on : {T A : Type 0} (reader : Reads T A) (front longer : List A) (x : A) (count i at now : ℕ) (left after : List T)
    (total : Result (List A × List T) TextRefusal) → i < count
    → now ≡ at → longer ≡ front ++ x ∷ [] → reader now left ≡ Ok (x, after) → with_front front (times (count - i) reader at left) ≡ total
    → with_front longer (times (count - (i + 1)) reader at after) ≡ total
unfolding times
times_goes_on reader front longer x count i at now left after total lt same pushed h so_far =
    let more : count - i ≡ suc (count - (i + 1)) = omega arith in
    let read = rw same at h in
    let one : with_front front (times (count - i) reader at left)
    ≡ with_front (front ++ x ∷ []) (times (count - (i + 1)) reader at after) =
    rw (more, read) (with_one front x at (times (count - (i + 1)) reader at after)) in
    rw pushed (sym one ∙ so_far)

pub times_stops : {T A : Type 0} (reader : Reads T A) (front : List A) (e : TextRefusal) (count i at now : ℕ) (left : List T)
    (total : Result (List A × List T) TextRefusal) → i < count
    → now ≡ at → Fails e (reader now left) → with_front front (times (count - i) reader at left) ≡ total → Fails e total
unfolding times
times_stops reader front e count i at now left total lt same h so_far =
    let more : count - i ≡ suc (count - (i + 1)) = omega arith in
    with_fault (λ x. times (count - (i + 1)) reader >>= λ xs. give (x ∷ xs)) front at e (reader at left) total (rw more at so_far)
    (rw same at h)

pub times_is_done : {T A : Type 0} (reader : Reads T A) (front : List A) (count i at : ℕ) (left : List T)
    (total : Result (List A × List T) TextRefusal) → count ≤ i
    → with_front front (times (count - i) reader at left) ≡ total → total ≡ Ok (front, left)
unfolding times
times_is_done {T = T} {A = A} reader front count i at left total le so_far =
    let none : count - i ≡ 0 = omega arith in
    let done : with_front front (times (count - i) reader at left)
    ≡ Ok (front, left) = rw none (ap (λ (xs : List A). Ok (xs, left)) (append-nil front)) in
    sym so_far ∙ done

-- ---- increasing positions, a given number of them

pub positions_go_on : (front : List ℕ) (n count i lines before line : ℕ) (words after : List (List ℕ))
    (total : Result (List ℕ × List (List ℕ)) TextRefusal) → i < count
    → position lines before line words ≡ Ok (n, after) → with_front front (positions_above (count - i) lines before line words) ≡ total
    → with_front (front ++ (n - 1) ∷ []) (positions_above (count - (i + 1)) lines n line after) ≡ total
unfolding positions_above
positions_go_on front n count i lines before line words after total lt h so_far =
    let more : count - i ≡ suc (count - (i + 1)) = omega arith in
    let one : with_front front (positions_above (count - i) lines before line words)
    ≡ with_front (front ++ (n - 1) ∷ []) (positions_above (count - (i + 1)) lines n line after) =
    rw (more, h) (with_one front (n - 1) line (positions_above (count - (i + 1)) lines n line after)) in
    sym one ∙ so_far

pub positions_stop : (front : List ℕ) (e : TextRefusal) (count i lines before line : ℕ) (words : List (List ℕ))
    (total : Result (List ℕ × List (List ℕ)) TextRefusal) → i < count
    → Fails e (position lines before line words) → with_front front (positions_above (count - i) lines before line words) ≡ total
    → Fails e total
unfolding positions_above
positions_stop front e count i lines before line words total lt h so_far =
    let more : count - i ≡ suc (count - (i + 1)) = omega arith in
    with_fault (λ n. positions_above (count - (i + 1)) lines n >>= λ ps. give ((n - 1) ∷ ps)) front line e
    (position lines before line words) total (rw more at so_far) h

pub positions_are_done : (front : List ℕ) (count i lines before line : ℕ) (words : List (List ℕ))
    (total : Result (List ℕ × List (List ℕ)) TextRefusal) → count ≤ i
    → with_front front (positions_above (count - i) lines before line words) ≡ total → total ≡ Ok (front, words)
unfolding positions_above
positions_are_done front count i lines before line words total le so_far =
    let none : count - i ≡ 0 = omega arith in
    let done : with_front front (positions_above (count - i) lines before line words)
    ≡ Ok (front, words) = rw none (ap (λ (xs : List ℕ). Ok (xs, words)) (append-nil front)) in
    sym so_far ∙ done

-- ---- one increasing position or more, up to the end of the line

one_word : (lines before line n : ℕ) (words after : List (List ℕ)) → position lines before line words ≡ Ok (n, after)
    → length words ≡ suc (length after)
one_word lines before line n words after h =
    let taken = (Takes-position lines before line words after n).0 h in
    ap length (taken.1 ∙ ap (λ (ws : List (List ℕ)). ws ++ after) taken.2.0.1)

-- the first one
pub some_start : (lines line n : ℕ) (words after : List (List ℕ)) → position lines 0 line words ≡ Ok (n, after)
    → with_front ((n - 1) ∷ []) (positions_above (length after) lines n line after) ≡ some_positions lines line words
unfolding some_positions positions_above
some_start lines line n words after h =
    let short = one_word lines 0 line n words after h in
    let count : max 1 (length words) ≡ suc (length after) = omega arith in
    rw (count, h) (sym (with_one [] (n - 1) line (positions_above (length after) lines n line after)) ∙ with_front_nil _)

pub some_fail : (e : TextRefusal) (lines line : ℕ) (words : List (List ℕ)) → Fails e (position lines 0 line words)
    → Fails e (some_positions lines line words)
unfolding some_positions positions_above
some_fail e lines line words h =
    let count : max 1 (length words) ≡ suc (max 1 (length words) - 1) = omega arith in
    let read : with_front [] (go_on (λ n. positions_above (max 1 (length words) - 1) lines n >>= λ ps. give ((n - 1) ∷ ps)) line
    (position lines 0 line words)) ≡ some_positions lines line words =
    with_front_nil _ ∙ sym (ap (λ (k : ℕ). positions_above k lines 0 line words) count) in
    with_fault (λ n. positions_above (max 1 (length words) - 1) lines n >>= λ ps. give ((n - 1) ∷ ps)) [] line e
    (position lines 0 line words) (some_positions lines line words) read h

-- and each other one
given_some : (lines before line n : ℕ) (w : List ℕ) (ws after : List (List ℕ))
    → position_or_end lines before line (w ∷ ws) ≡ Ok (Some n, after) → position lines before line (w ∷ ws) ≡ Ok (n, after)
unfolding position_or_end
given_some lines before line n w ws after h =
    let parts = bind_ok (λ p. give (Some p)) line (position lines before line (w ∷ ws)) (Some n, after) h in
    let same = same_given (Some parts.0.0, parts.0.1) (Some n, after) parts.2 in
    let number : parts.0.0 ≡ n = cc (same.0) in
    parts.1 ∙ ap (λ (k : ℕ). Ok (k, parts.0.1)) number ∙ ap (λ (t : List (List ℕ)). Ok (n, t)) same.1

none_left : (lines before line n : ℕ) (after : List (List ℕ)) → position_or_end lines before line [] ≡ Ok (Some n, after) → ⊥
unfolding position_or_end
none_left lines before line n after h = let same = same_given (None, []) (Some n, after) h in absurd (cc (same.0))

pub some_go_on : (front : List ℕ) (n lines before line : ℕ) (words after : List (List ℕ))
    (total : Result (List ℕ × List (List ℕ)) TextRefusal) → position_or_end lines before line words ≡ Ok (Some n, after)
    → with_front front (positions_above (length words) lines before line words) ≡ total
    → with_front (front ++ (n - 1) ∷ []) (positions_above (length after) lines n line after) ≡ total
unfolding positions_above
some_go_on front n lines before line [] after total h so_far = absurd (none_left lines before line n after h)
some_go_on front n lines before line (w ∷ ws) after total h so_far =
    let first = given_some lines before line n w ws after h in
    let short = one_word lines before line n (w ∷ ws) after first in
    let count : length ws ≡ length after = omega arith in
    let one : with_front front (positions_above (length (w ∷ ws)) lines before line (w ∷ ws))
    ≡ with_front (front ++ (n - 1) ∷ []) (positions_above (length after) lines n line after) =
    rw (first, count) (with_one front (n - 1) line (positions_above (length after) lines n line after)) in
    sym one ∙ so_far

failed : (e : TextRefusal) (at : ℕ) (read : Result (ℕ × List (List ℕ)) TextRefusal) → Fails e (go_on (λ p. give (Some p)) at read)
    → Fails e read
failed OutOfMemory at read h = tt
failed (Bad line kind) at (Ok x) h = absurd (cc (h))
failed (Bad line kind) at (Err d) h = let same : d ≡ Bad line kind = cc (h) in ap Err same
failed (Limit what found) at (Ok x) h = absurd (cc (h))
failed (Limit what found) at (Err d) h = let same : d ≡ Limit what found = cc (h) in ap Err same

never : (e : TextRefusal) (x : Option ℕ × List (List ℕ)) (total : Result (List ℕ × List (List ℕ)) TextRefusal) → Fails e (given x)
    → Fails e total
never OutOfMemory x total h = tt
never (Bad line kind) x total h = absurd (cc (h))
never (Limit what found) x total h = absurd (cc (h))

pub some_stop : (front : List ℕ) (e : TextRefusal) (lines before line : ℕ) (words : List (List ℕ))
    (total : Result (List ℕ × List (List ℕ)) TextRefusal) → Fails e (position_or_end lines before line words)
    → with_front front (positions_above (length words) lines before line words) ≡ total → Fails e total
unfolding position_or_end positions_above
some_stop front e lines before line [] total h so_far = never e (None, []) total h
some_stop front e lines before line (w ∷ ws) total h so_far =
    with_fault (λ n. positions_above (length ws) lines n >>= λ ps. give ((n - 1) ∷ ps)) front line e
    (position lines before line (w ∷ ws)) total so_far (failed e line (position lines before line (w ∷ ws)) h)

pub some_are_done : (front : List ℕ) (lines before line : ℕ) (words after : List (List ℕ))
    (total : Result (List ℕ × List (List ℕ)) TextRefusal) → position_or_end lines before line words ≡ Ok (None, after)
    → with_front front (positions_above (length words) lines before line words) ≡ total → total ≡ Ok (front, after)
unfolding position_or_end positions_above
some_are_done front lines before line [] after total h so_far =
    let same = same_given (None, []) (None, after) h in
    sym so_far ∙ ap (λ (ps : List ℕ). Ok (ps, [])) (append-nil front) ∙ ap (λ (t : List (List ℕ)). Ok (front, t)) same.1
some_are_done front lines before line (w ∷ ws) after total h so_far =
    let parts = bind_ok (λ p. give (Some p)) line (position lines before line (w ∷ ws)) (None, after) h in
    let same = same_given (Some parts.0.0, parts.0.1) (None, after) parts.2 in
    absurd (cc (same.0))
