-- What the last exchanges keep.
use Rattle.std.specs.Prelude.{ℕ, List, [], ◌∷◌}
use Rattle.linear_algebra.specs.Scalars.{Scalars, IsField}
use Rattle.matching_state.specs.Missing.{Misses}
use Rattle.classes.specs.Parted.{IsParted}
use Rattle.parity_lines.specs.Problems.{ParityProblem}

-- M misses o, and the vector v has a part at the lines of M of one class that N misses with o
pub record IsLasting (S : Scalars) (F : IsField S) (p : ParityProblem) (labels N o v M : List ℕ) : Type 0 where
  pub label : ℕ
  pub part : List ℕ
  pub parted : IsParted S F p labels label o v part M
  pub missed : Misses S p N (o ∷ part ∷ [])
