-- What an augmentation answers.
use Rattle.std.specs.Prelude.{◌≡◌, ℕ, List, length}
use Rattle.families.specs.Families.{Spans}
use Rattle.linear_algebra.specs.Scalars.{Scalars}
use Rattle.parity_lines.specs.LineSets.{IsIndependentSet}
use Rattle.parity_lines.specs.Problems.{ParityProblem}
use Rattle.search.specs.Found.{IsLargerThan, MakesGoodAnswer}
use Rattle.augment.specs.declared.solver.Next.{Next}
use Rattle.augment.specs.declared.solver.Next.TheVariants as next
use Rattle.augment.specs.declared.step.Step.{Step}
use Rattle.augment.specs.declared.step.Step.TheVariants.{Larger, Best}

-- an independent set of exactly one line more, or a certificate that makes a good answer with the set
abbrev pub TellsStep : {X : Type 0} → Scalars → ParityProblem → List ℕ → Step X → Type 0
TellsStep S p M (Larger L) = IsLargerThan S p M L
TellsStep S p M (Best c) = MakesGoodAnswer S p M c

-- the state of an independent set of exactly one line more, or a certificate that makes a good answer with the set
abbrev pub TellsNext : {X : Type 0} → Scalars → ParityProblem → List ℕ → Next X → Type 0
TellsNext S p M (next.Larger m) = (m.problem ≡ p) × IsLargerThan S p M m.set
TellsNext S p M (next.Best c) = MakesGoodAnswer S p M c

-- an independent set that is as long and doesn't span the point, or such a certificate
abbrev pub TellsStepModulo : {X : Type 0} → Scalars → ParityProblem → List ℕ → List ℕ → Step X → Type 0
TellsStepModulo S p point M (Larger L) = IsIndependentSet S p L × (length L ≡ length M) × ¬ (Spans S p point L)
TellsStepModulo S p point M (Best c) = MakesGoodAnswer S p M c
