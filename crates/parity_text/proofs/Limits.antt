-- What is spelled is within the limits, and belongs to the problem.
use Rattle.std.proofs.Common.{◌≡◌, ℕ, ◌<◌, List, [], ◌∷◌, length, Ok, All, arith}
use Rattle.std.specs.List.{AllByRecursion, Contains}
use Rattle.std.specs.Prelude.{◌≢◌, codes}
use Rattle.std.proofs.lemmas.List.Elements.{All-nil, All-cons}
use Rattle.line_lexer.specs.Lines.{Line}
use Rattle.linear_algebra.specs.Scalars.{Scalars, IsScalar}
use Rattle.linear_algebra.specs.Vectors.{IsVector}
use Rattle.parity_lines.specs.LineSets.{IsLineSet}
use Rattle.parity_lines.specs.PartLists.{IsPartList}
use Rattle.parity_lines.specs.Problems.{ParityProblem}
use Rattle.small_fields.specs.FieldName.{field_orders}
use Rattle.parity_text.specs.Spells.{SpellsVector, SpellsPair, Named, SpellEach, SpellsProblem, SpellsSet, SpellsAnswer}
use Rattle.parity_text.specs.Texts.{head, problem, answer, choice}
use Rattle.parity_text.specs.Values.{AnswerValue, IsWithinLimits, IsAnswerTo}
use Rattle.parity_text.proofs.TextsMean.{Takes-head, Takes-problem, Takes-answer, Takes-choice}
use Rattle.text_forms.specs.Spelling.{IsOneLine, SpellsPositions}

all_of : {A : Type 0} (P : A → Type 0) (xs : List A) → AllByRecursion P xs → All P xs
all_of P [] h = All-nil P
all_of P (x ∷ xs) h = All-cons P x xs h.0 (all_of P xs h.1)

-- what holds of each value that is spelled
all_of_each : {A T : Type 0} (S : A → List T → Type 0) (P : A → Type 0) → ((x : A) (front : List T) → S x front → P x)
    → (xs : List A) (left : List T) → SpellEach S xs left → All P xs
all_of_each S P means [] left h = All-nil P
all_of_each S P means (x ∷ xs) left h = All-cons P x xs (means x h.0 h.3) (all_of_each S P means xs h.1 h.4)

spelled_vector : (S : Scalars) (d : ℕ) (v : List ℕ) (ws : List (List ℕ)) → SpellsVector S.order d v ws → IsVector S d v
spelled_vector S d v ws h = record { length_is = h.long; entries = all_of (IsScalar S) v h.below }

pub spelled_problem : (S : Scalars) (p : ParityProblem) (text : List Line) → Contains field_orders S.order → SpellsProblem S.order p text
    → IsWithinLimits S p
spelled_problem S p text order h = record {
  order = order;
  dimension = h.dimension_small;
  lines = h.few;
  vectors = all_of_each (IsOneLine (SpellsPair S.order p.dimension))
      (λ (line : List ℕ × List ℕ). IsVector S p.dimension line.0 × IsVector S p.dimension line.1)
      (λ line front s. (
        spelled_vector S p.dimension line.0 s.3.first s.3.spells_first,
        spelled_vector S p.dimension line.1 s.3.second s.3.spells_second,
      )) p.lines h.lines h.spells_lines;
}

below : (lines : ℕ) (ps : List ℕ) (ws : List (List ℕ)) → SpellsPositions lines ps ws → All (λ m. m < lines) ps
below lines ps ws h = all_of (λ m. m < lines) ps h.below

spelled_set : (p : ParityProblem) (set : List ℕ) (text : List Line) → SpellsSet (length p.lines) set text → IsLineSet p set
spelled_set p set text h =
    let positions = h.spells_listed.3.2 in
    record { increasing = positions.increasing; within = below (length p.lines) set h.spells_listed.3.0 positions }

some_not_nil : (ps : List ℕ) → 0 < length ps → ps ≢ []
some_not_nil [] h e = absurd (omega (arith, h))
some_not_nil (p ∷ ps) h e = absurd (cc (e))

pub spelled_answer : (S : Scalars) (p : ParityProblem) (a : AnswerValue) (text : List Line)
    → SpellsAnswer S.order p.dimension (length p.lines) a text → IsAnswerTo S p a
spelled_answer S p a text h =
    let PartLine : List ℕ → List Line
    → Type 0 = IsOneLine (Named (codes "part") (λ ps ws. (0 < length ps) × SpellsPositions (length p.lines) ps ws)) in
    record {
      set = spelled_set p a.set h.set h.spells_set;
      width = h.width;
      kernel = all_of_each (IsOneLine (Named (codes "vector") (SpellsVector S.order p.dimension))) (IsVector S p.dimension)
          (λ v front s. spelled_vector S p.dimension v s.3.0 s.3.2) a.kernel.rows h.kernel h.spells_kernel;
      kernel_long = h.kernel_small;
      parts = all_of_each PartLine IsPartList
          (λ ps front s. record { increasing = s.3.2.1.increasing; nonempty = some_not_nil ps s.3.2.0 }) a.parts h.parts h.spells_parts;
      within = all_of_each PartLine (All (λ m. m < length p.lines))
          (λ ps front s. below (length p.lines) ps s.3.0 s.3.2.1) a.parts h.parts h.spells_parts;
      parts_long = h.few_parts;
    }

pub head_within : (last q : ℕ) (text rest : List Line) → head last text ≡ Ok (q, rest) → Contains field_orders q
head_within last q text rest e = ((Takes-head last text rest q).0 e).2.order

pub problem_within : (S : Scalars) (p : ParityProblem) (last : ℕ) (text rest : List Line) → Contains field_orders S.order
    → problem S.order last text ≡ Ok (p, rest) → IsWithinLimits S p
problem_within S p last text rest order e = let h = (Takes-problem S.order last text rest p).0 e in spelled_problem S p h.0 order h.2

pub answer_within : (S : Scalars) (p : ParityProblem) (a : AnswerValue) (last : ℕ) (text rest : List Line)
    → answer S.order p.dimension (length p.lines) last text ≡ Ok (a, rest) → IsAnswerTo S p a
answer_within S p a last text rest e =
    let h = (Takes-answer S.order p.dimension (length p.lines) last text rest a).0 e in spelled_answer S p a h.0 h.2

pub choice_within : (p : ParityProblem) (set : List ℕ) (last : ℕ) (text rest : List Line)
    → choice (length p.lines) last text ≡ Ok (set, rest) → IsLineSet p set
choice_within p set last text rest e =
    let h = (Takes-choice (length p.lines) last text rest set).0 e in spelled_set p set h.2.set h.2.spells_set
