-- What is written is read again as the same value.
use Rattle.std.proofs.Common.{◌≡◌, ℕ, ◌+◌, List, [], ◌∷◌, ◌++◌, length, map, Ok, refl, sym, subst}
use Rattle.std.specs.Prelude.{codes}
use Rattle.line_lexer.specs.Lines.{Line}
use Rattle.line_lexer.specs.Words.{AreWords, as_lines, spelled}
use Rattle.linear_algebra.specs.Scalars.{Scalars}
use Rattle.parity_lines.specs.LineSets.{IsLineSet}
use Rattle.parity_lines.specs.Problems.{ParityProblem}
use Rattle.parity_text.specs.Files.{problem_file, answer_file, choice_file}
use Rattle.parity_text.specs.Spelled.{pair_words, problem_lines, answer_lines, choice_lines}
use Rattle.text_forms.specs.Spelling.{counted_words}
use Rattle.parity_text.specs.Spells.{SpellsProblemText, SpellsWith, SpellsAnswer, SpellsChoice}
use Rattle.parity_text.specs.Values.{AnswerValue, IsWithinLimits, IsAnswerTo}
use Rattle.parity_text.proofs.FilesMean.{problem_file-means, answer_file-means, choice_file-means}
use Rattle.parity_text.proofs.WrittenLines.{read_lines, as_lines-append}
use Rattle.parity_text.proofs.WrittenTexts.{written_head, written_problem, problem_words, written_answer, answer_words, written_choice}
use Rattle.parity_text.proofs.WrittenTexts.{choice_words}
use Rattle.parity_text.proofs.WrittenWords.{each_append}
use Rattle.text_forms.specs.Forms.{of_text}

module _ (S : Scalars) (p : ParityProblem) (within : IsWithinLimits S p) where
  problem_text : SpellsProblemText S.order p (as_lines 1 (problem_lines S.order p))
  problem_text = record {
    head = as_lines 1 (counted_words (codes "parity") 1 ∷ counted_words (codes "field") S.order ∷ []);
    problem = as_lines 3 (counted_words (codes "dimension") p.dimension ∷ counted_words (codes "lines")
        (length p.lines) ∷ map pair_words p.lines);
    text_is = refl;
    spells_head = written_head S p within 1;
    spells_problem = written_problem S p within 3;
  }

  pub problem_again : of_text problem_file (spelled (problem_lines S.order p)) ≡ Ok ((S.order, p), [])
  problem_again =
      let ls = problem_lines S.order p in
      (problem_file-means (spelled ls) S.order p).1
      (subst (SpellsProblemText S.order p) (sym (read_lines ls (problem_words S p within))) problem_text)

  -- lines behind the problem's that spell a value
  text_with : {A : Type 0} (R : ℕ → ParityProblem → A → List Line → Type 0) (x : A) (ls : List (List (List ℕ)))
      → ((k : ℕ) → R S.order p x (as_lines k ls))
      → SpellsWith R S.order p x (as_lines 1 (problem_lines S.order p ++ ls))
  text_with R x ls says =
      let k : ℕ = 1 + length (problem_lines S.order p) in
      record {
        problem = as_lines 1 (problem_lines S.order p);
        rest = as_lines k ls;
        text_is =
            as_lines-append 1 (problem_lines S.order p) ls;
        spells_problem = problem_text;
        spells_rest = says k;
      }

  pub answer_again : (a : AnswerValue) → IsAnswerTo S p a
      → of_text answer_file (spelled (problem_lines S.order p ++ answer_lines a)) ≡ Ok (((S.order, p), a), [])
  answer_again a belongs =
      let R : ℕ → ParityProblem → AnswerValue → List Line → Type 0 = λ q p. SpellsAnswer q p.dimension (length p.lines) in
      let ls = problem_lines S.order p ++ answer_lines a in
      let words = each_append AreWords (problem_lines S.order p) (answer_lines a) (problem_words S p within)
      (answer_words S p within a belongs) in
      (answer_file-means (spelled ls) S.order p a).1
      (subst (SpellsWith R S.order p a) (sym (read_lines ls words))
      (text_with R a (answer_lines a) (written_answer S p within a belongs)))

  pub choice_again : (set : List ℕ) → IsLineSet p set
      → of_text choice_file (spelled (problem_lines S.order p ++ choice_lines set)) ≡ Ok (((S.order, p), set), [])
  choice_again set h =
      let R : ℕ → ParityProblem → List ℕ → List Line → Type 0 = λ _ p. SpellsChoice (length p.lines) in
      let ls = problem_lines S.order p ++ choice_lines set in
      let words = each_append AreWords (problem_lines S.order p) (choice_lines set) (problem_words S p within)
      (choice_words S p within set h) in
      (choice_file-means (spelled ls) S.order p set).1
      (subst (SpellsWith R S.order p set) (sym (read_lines ls words))
      (text_with R set (choice_lines set) (written_choice S p within set h)))
