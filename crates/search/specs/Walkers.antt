-- What a walker holds.
use Rattle.std.specs.Prelude.{◌≡◌, ℕ, ◌<◌, List, All, length}
use Rattle.linear_algebra.specs.Scalars.{Scalars}
use Rattle.parity_lines.specs.Problems.{ParityProblem}
use Rattle.search.specs.Notes.{AreNotes}
use Rattle.search.specs.Repeats.{AreFirsts}
use Rattle.search.specs.declared.walker.Walker.{Walker}

-- the notes are of the state, and so are the lines
pub record IsReady {X : Type 0} (S : Scalars) (w : Walker X) : Type 0 where
  pub notes : AreNotes S w.state.problem w.state.set w.notes
  pub firsts : AreFirsts (length w.state.problem.lines) w.firsts.items
  pub order : All (λ m. m < length w.state.problem.lines) w.order.items

-- it holds a set of p as large as M
pub record IsOf {X : Type 0} (S : Scalars) (p : ParityProblem) (M : List ℕ) (w : Walker X) : Type 0 where
  pub problem : w.state.problem ≡ p
  pub size : length w.state.set ≡ length M
  pub ready : IsReady S w
