-- Sets that fit the classes of akin lines, and what leads on from a family.
use Rattle.std.specs.Prelude.{◌≡◌, ℕ, ◌/◌, ◌<◌, List, [], Bool, length}
use Rattle.class_theory.proofs.Classes.{class_lines, count_in}
use Rattle.class_theory.proofs.Labels.{label}
use Rattle.class_theory.proofs.TurnEnds.{TurnEnd}
use Rattle.families.specs.Families.{SetFamily}
use Rattle.linear_algebra.specs.Ranks.{rank_over}
use Rattle.linear_algebra.specs.Scalars.{Scalars, IsField}
use Rattle.linear_algebra.proofs.Coordinates.{space}
use Rattle.parity_lines.proofs.Border.{tuples_at}
use Rattle.parity_lines.specs.Problems.{ParityProblem, vectors_at}
use Rattle.parity_theory.proofs.Parts.{has}
use Rattle.classes.specs.Divisions.{listing}
use Rattle.classes.specs.Tables.{Separators, akin_at}
use Rattle.classes.specs.Turns.{size_of}

-- a set of the family's size with a free line, one with an overlap, or an independent one that separates two akin lines
abbrev pub LeadsOn : (S : Scalars) → IsField S → SetFamily → Separators → Type 0
LeadsOn S F f t = TurnEnd (space S F f.problem.dimension) (tuples_at S F f.problem) (length f.problem.lines) (size_of f) (akin_at t)

-- the lines whose least akin line is c
abbrev pub class_at : ℕ → (ℕ → ℕ → Bool) → ℕ → List ℕ
class_at n akin c = class_lines (label akin) (listing n) c

-- of each class M has as many lines as half of its rank, rounded down
abbrev pub FitsClasses : Scalars → ParityProblem → (ℕ → ℕ → Bool) → List ℕ → Type 0
FitsClasses S p akin M = (c : ℕ) → c < length p.lines →
    rank_over S p.dimension [] (vectors_at p (class_at (length p.lines) akin c)) / 2 ≡ count_in (has (class_at (length p.lines) akin c)) M
