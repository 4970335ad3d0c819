-- What walks leave.
use Rattle.std.specs.Prelude.{◌≡◌, ℕ, List, All, length}
use Rattle.linear_algebra.specs.Scalars.{Scalars}
use Rattle.parity_lines.specs.Problems.{ParityProblem}
use Rattle.search.specs.Found.{IsAsLargeAs}
use Rattle.search.specs.declared.labels.Labels.{Labels}
use Rattle.search.specs.declared.notes.Notes.{Notes}

-- a label and a mark for each of n lines
pub record AreOf (n : ℕ) (l : Labels) : Type 0 where
  pub labels : length l.labels.items ≡ n
  pub marks : length l.outside.items ≡ n

-- classes of the lines of the problem, and independent sets as large as M
pub record AreNotes (S : Scalars) (p : ParityProblem) (M : List ℕ) (n : Notes) : Type 0 where
  pub labels : AreOf (length p.lines) n.labels
  pub sets : All (IsAsLargeAs S p M) n.sets.items
