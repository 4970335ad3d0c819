-- The text of a problem is read as the problem wherever its first line stands.
use Rattle.std.proofs.Common.{◌≡◌, ℕ, ◌+◌, List, [], ◌∷◌, ◌++◌, length, map, Ok, refl, sym, ap, ◌∙◌}
use Rattle.std.specs.Prelude.{codes}
use Rattle.std.proofs.lemmas.List.{append-nil}
use Rattle.line_lexer.proofs.Lines.{lines_from_nil}
use Rattle.line_lexer.proofs.Spelled.{lines_from-spelled}
use Rattle.line_lexer.specs.Lines.{Line, lines_from}
use Rattle.line_lexer.specs.Words.{AreWords, as_lines, spelled}
use Rattle.std.specs.List.{AllByRecursion}
use Rattle.linear_algebra.specs.Scalars.{Scalars}
use Rattle.parity_lines.specs.Problems.{ParityProblem}
use Rattle.parity_text.proofs.TextsMean.{Takes-head, Takes-problem}
use Rattle.parity_text.proofs.WrittenTexts.{written_head, written_problem, problem_words}
use Rattle.parity_text.specs.Files.{problem_with}
use Rattle.parity_text.specs.Spelled.{pair_words, problem_lines}
use Rattle.parity_text.specs.Texts.{head, problem}
use Rattle.parity_text.specs.Values.{IsWithinLimits}
use Rattle.text_forms.specs.Forms.{finished}
use Rattle.text_forms.specs.Reading.{give}
use Rattle.text_forms.specs.Spelling.{counted_words}

-- lines of words alone
lines_spelled : (n : ℕ) (ls : List (List (List ℕ))) → AllByRecursion AreWords ls → lines_from n (spelled ls) ≡ as_lines n ls
lines_spelled n ls h =
    ap (lines_from n) (sym (append-nil (spelled ls))) ∙ lines_from-spelled n ls [] h
    ∙ ap (λ more. as_lines n ls ++ more) (lines_from_nil (n + length ls)) ∙ append-nil (as_lines n ls)

module _ (S : Scalars) (p : ParityProblem) (within : IsWithinLimits S p) where
  pub read_at : {A : Type 0} (f : ℕ → ParityProblem → A) (last k : ℕ)
      → problem_with (λ q r. give (f q r)) last (lines_from k (spelled (problem_lines S.order p))) ≡ Ok (f S.order p, [])
  unfolding finished
  read_at f last k =
      let front : List Line = as_lines k (counted_words (codes "parity") 1 ∷ counted_words (codes "field") S.order ∷ []) in
      let back : List Line = as_lines (k + 1 + 1) (counted_words (codes "dimension") p.dimension ∷ counted_words (codes "lines")
      (length p.lines) ∷ map pair_words p.lines) in
      let lines : lines_from k (spelled (problem_lines S.order p)) ≡ front ++ back =
      lines_spelled k (problem_lines S.order p) (problem_words S p within) in
      let first : head last (front ++ back) ≡ Ok (S.order, back) =
      (Takes-head last (front ++ back) back S.order).1 (front, refl, written_head S p within k) in
      let second : problem S.order last back ≡ Ok (p, []) =
      (Takes-problem S.order last back [] p).1 (back, sym (append-nil back), written_problem S p within (k + 1 + 1)) in
      rw (lines, first, second) refl
