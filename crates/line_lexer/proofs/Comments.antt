-- A line that is a comment is passed over.
use Rattle.std.proofs.Common.{◌≡◌, ℕ, suc, ◌+◌, ◌-◌, ◌<◌, List, [], ◌∷◌, ◌++◌, length, get_or, take, Bool, true, false, not, inl, inr, refl, arith}
use Rattle.std.specs.Prelude.{◌==◌}
use Rattle.std.specs.List.{list_all}
use Rattle.std.proofs.lemmas.Bool.{cases_Bool}
use Rattle.std.proofs.lemmas.List.{length-append}
use Rattle.std.proofs.Math.Seq.{take-append_seam, drop-append-add}
use Rattle.line_lexer.specs.Bytes.{is_newline, is_hash}
use Rattle.line_lexer.specs.Lines.{content, lines_from}
use Rattle.line_lexer.proofs.Lines.{lines_from-cons}
use Rattle.line_lexer.proofs.Spelled.{front_len}
use Rattle.line_lexer.proofs.Words.{words_nil}

-- nothing stands before the comment
no_content : (note : List ℕ) → content (35 ∷ note) ≡ []
unfolding content
no_content [] = refl
no_content (b ∷ note) =
    let more : length (35 ∷ b ∷ note) - 1 ≡ suc (length note) = omega arith in
    elim (cases_Bool (get_or (35 ∷ b ∷ note) (length (35 ∷ b ∷ note) - 1) 0 == 13)) [
      | inl holds ↦ rw (holds, more) refl
      | inr fails ↦ rw fails refl
    ]

pub comment_passed : (n : ℕ) (note rest : List ℕ) → list_all (λ b. not (is_newline b)) note ≡ true
    → lines_from n (35 ∷ note ++ 10 ∷ rest) ≡ lines_from (n + 1) rest
comment_passed n note rest h =
    let text : List ℕ = 35 ∷ note in
    let at = front_len is_newline text 10 rest h refl in
    let some : 0 < length (text ++ 10 ∷ rest) = omega (arith, length-append text (10 ∷ rest)) in
    rw (lines_from-cons n (text ++ 10 ∷ rest) some, at, take-append_seam text (10 ∷ rest), drop-append-add text (10 ∷ rest) 1, no_content note, words_nil) refl
