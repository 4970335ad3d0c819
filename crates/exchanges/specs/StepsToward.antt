-- What steps toward a target tell.
use Rattle.std.specs.Prelude.{◌≡◌, ℕ, List}
use Rattle.linear_algebra.specs.Scalars.{Scalars}
use Rattle.exchanges.specs.Exchanges.{IsExchangeToward, IsSettled, IsLonger}
use Rattle.exchanges.specs.declared.step.Stepped.{Stepped}
use Rattle.exchanges.specs.declared.step.Stepped.TheVariants as stepped
use Rattle.exchanges.specs.declared.walk.Moved.{Moved}
use Rattle.exchanges.specs.declared.walk.Moved.TheVariants as moved
use Rattle.parity_lines.specs.Problems.{ParityProblem}

-- N comes of M by the exchange of these lines; or it is M, which has settled; or it is M, and a longer set is known
abbrev pub TellsStep : Scalars → ParityProblem → List (List ℕ) → List ℕ → List ℕ → List ℕ → Stepped → Type 0
TellsStep S p keep T M N (stepped.Moved out into) = IsExchangeToward S p keep T M out into N
TellsStep S p keep T M N stepped.Settled = (N ≡ M) × IsSettled S p keep T M
TellsStep S p keep T M N (stepped.Larger L) = (N ≡ M) × IsLonger S p M L

-- M has settled, or a longer set is known
abbrev pub TellsMoved : Scalars → ParityProblem → List (List ℕ) → List ℕ → List ℕ → Moved → Type 0
TellsMoved S p keep T M moved.Settled = IsSettled S p keep T M
TellsMoved S p keep T M (moved.Larger L) = IsLonger S p M L
