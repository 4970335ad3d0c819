-- The line of the offset is passed over.
use Rattle.std.proofs.Common.{◌≡◌, ℕ, ◌+◌, ◌<◌, ◌≤◌, ◌^◌, List, [], ◌∷◌, ◌++◌, length, true, not, ap, ◌∙◌, append_assoc, refl, arith}
use Rattle.std.specs.Prelude.{codes}
use Rattle.std.specs.Char.{is_ascii_digit}
use Rattle.std.specs.Fmt.{decimal}
use Rattle.std.proofs.lemmas.Bool.{and_parts, leb-true, ne_eqb}
use Rattle.std.proofs.lemmas.Fmt.{length-decimal-le}
use Rattle.std.proofs.lemmas.List.{length-append}
use Rattle.line_lexer.proofs.Comments.{comment_passed}
use Rattle.line_lexer.proofs.Spelled.{list_all_weaker}
use Rattle.line_lexer.specs.Bytes.{is_newline}
use Rattle.line_lexer.specs.Lines.{lines_from}
use Rattle.parity_program.specs.Replies.{offset_line}
use Rattle.text_forms.proofs.Numerals.{decimal-numeral}

digit_stays : (b : ℕ) → is_ascii_digit b ≡ true → not (is_newline b) ≡ true
digit_stays b e =
    let low : 48 ≤ b = leb-true 48 b (and_parts _ _ e).0 in
    rw (ne_eqb b 10 (λ q. omega arith)) refl

module _ (offset : ℕ) (few : offset < 10 ^ 9) where
  -- the line is a comment
  pub offset_passed : (n : ℕ) (rest : List ℕ) → lines_from n (offset_line offset ++ rest) ≡ lines_from (n + 1) rest
  offset_passed n rest =
      let note : List ℕ = codes " offset " ++ decimal offset in
      let digits = list_all_weaker is_ascii_digit _ digit_stays (decimal offset) (decimal-numeral offset few).digits in
      ap (λ t. lines_from n (codes "# offset " ++ t)) (append_assoc (decimal offset) (10 ∷ []) rest)
      ∙ comment_passed n note rest digits

  pub offset_length : length (offset_line offset) ≤ 19
  offset_length =
      let digits = length-decimal-le 9 offset (omega arith) few (omega (arith, few)) in
      omega (arith, digits, length-append (decimal offset) (10 ∷ []))
