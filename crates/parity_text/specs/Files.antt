-- Whole inputs: a problem, what comes behind it, and nothing more.
use Rattle.std.specs.Prelude.{ℕ, List, length}
use Rattle.parity_lines.specs.Problems.{ParityProblem}
use Rattle.parity_text.specs.Texts.{head, problem, answer, choice}
use Rattle.parity_text.specs.Values.{AnswerValue}
use Rattle.text_forms.specs.Forms.{Form, whole_text}
use Rattle.text_forms.specs.Reading.{◌>>=◌, give}

-- the order of the field, the problem, and then a value by them
abbrev pub problem_and : {A : Type 0} → (ℕ → ParityProblem → Form A) → Form A
problem_and behind = do
  q ← head
  p ← problem q
  behind q p

-- the same, and nothing more
abbrev pub problem_with : {A : Type 0} → (ℕ → ParityProblem → Form A) → Form A
problem_with behind = whole_text (problem_and behind)

-- a problem and nothing more
unfoldable pub problem_file : Form (ℕ × ParityProblem)
problem_file = problem_with (λ q p. give (q, p))

-- a problem, an answer to it, and nothing more
unfoldable pub answer_file : Form ((ℕ × ParityProblem) × AnswerValue)
answer_file = problem_with (λ q p. do
  a ← answer q p.dimension (length p.lines)
  give ((q, p), a))

-- a problem, a choice of its lines, and nothing more
unfoldable pub choice_file : Form ((ℕ × ParityProblem) × List ℕ)
choice_file = problem_with (λ q p. do
  set ← choice (length p.lines)
  give ((q, p), set))
