-- The one spelling that is written, as lines of words.
use Rattle.std.specs.Prelude.{ℕ, ◌+◌, List, [], ◌∷◌, ◌++◌, length, map, codes}
use Rattle.std.specs.Fmt.{decimal}
use Rattle.parity_lines.specs.Problems.{ParityProblem}
use Rattle.parity_text.specs.Values.{AnswerValue}
use Rattle.text_forms.specs.Spelling.{counted_words, end_line}

-- positions count from 1 in a text
abbrev pub position_words : List ℕ → List (List ℕ)
position_words ps = map (λ p. decimal (p + 1)) ps

abbrev pub pair_words : List ℕ × List ℕ → List (List ℕ)
pair_words l = codes "line" ∷ map decimal l.0 ++ codes "|" ∷ map decimal l.1

-- a problem over the field of order q
abbrev pub problem_lines : ℕ → ParityProblem → List (List (List ℕ))
problem_lines q p =
    counted_words (codes "parity") 1 ∷ counted_words (codes "field") q ∷ counted_words (codes "dimension") p.dimension
    ∷ counted_words (codes "lines") (length p.lines) ∷ map pair_words p.lines

abbrev pub set_lines : List ℕ → List (List (List ℕ))
set_lines set = counted_words (codes "size") (length set) ∷ (codes "set" ∷ position_words set) ∷ []

abbrev pub answer_lines : AnswerValue → List (List (List ℕ))
answer_lines a =
    counted_words (codes "answer") 1 ∷ set_lines a.set
    ++ counted_words (codes "kernel") (length a.kernel.rows) ∷ map (λ v. codes "vector" ∷ map decimal v) a.kernel.rows
    ++ counted_words (codes "parts") (length a.parts) ∷ map (λ part. codes "part" ∷ position_words part) a.parts
    ++ end_line

abbrev pub choice_lines : List ℕ → List (List (List ℕ))
choice_lines set = counted_words (codes "choice") 1 ∷ set_lines set ++ end_line
