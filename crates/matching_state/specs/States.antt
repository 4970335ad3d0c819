-- The state of a set of lines of a problem, and what is told of a set that may be independent.
use Rattle.std.specs.Prelude.{◌≡◌, ℕ, List}
use Rattle.linear_algebra.specs.Scalars.{Scalars}
use Rattle.parity_lines.specs.Independence.{IsRelation}
use Rattle.parity_lines.specs.LineSets.{IsIndependentSet}
use Rattle.parity_lines.specs.Problems.{ParityProblem, vectors_at}
use Rattle.matching_state.specs.Chosen.{Chosen}
use Rattle.matching_state.specs.declared.matched.Start.{Start}
use Rattle.matching_state.specs.declared.matched.Start.TheVariants.{Ready, Relation}

-- the state is of the set M of lines of p
pub record IsStateOf (p : ParityProblem) (M : List ℕ) (state : Chosen) : Type 0 where
  pub problem : state.problem ≡ p
  pub set : state.set ≡ M

-- the state of an independent set, or a relation of the vectors
abbrev pub TellsStart : {X : Type 0} → Scalars → ParityProblem → List ℕ → Start X → Type 0
TellsStart S p M (Ready state) = IsStateOf p M state × IsIndependentSet S p M
TellsStart S p M (Relation cs) = IsRelation S p.dimension (vectors_at p M) cs
