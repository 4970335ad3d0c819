-- What a search finds for an independent set.
use Rattle.std.specs.Prelude.{◌≡◌, ℕ, suc, List, All, length}
use Rattle.linear_algebra.specs.Scalars.{Scalars}
use Rattle.matching_state.specs.Chosen.{Chosen}
use Rattle.parity_lines.specs.Certificates.{IsGoodAnswer}
use Rattle.parity_lines.specs.LineSets.{IsIndependentSet}
use Rattle.parity_lines.specs.Problems.{ParityProblem}
use Rattle.parity_lines.specs.declared.answer.Certificate.{Certificate}
use Rattle.search.specs.declared.searching.Found.{Found}
use Rattle.search.specs.declared.searching.Found.TheVariants as found
use Rattle.search.specs.declared.searching.Walked.{Walked}
use Rattle.search.specs.declared.searching.Walked.TheVariants as walked

-- L is an independent set of one line more than M
abbrev pub IsLargerThan : Scalars → ParityProblem → List ℕ → List ℕ → Type 0
IsLargerThan S p M L = IsIndependentSet S p L × (length L ≡ suc (length M))

-- L is an independent set of as many lines as M
abbrev pub IsAsLargeAs : Scalars → ParityProblem → List ℕ → List ℕ → Type 0
IsAsLargeAs S p M L = IsIndependentSet S p L × (length L ≡ length M)

-- the certificate makes a good answer with the set
abbrev pub MakesGoodAnswer : {X : Type 0} → Scalars → ParityProblem → List ℕ → Certificate X → Type 0
MakesGoodAnswer S p M c = IsGoodAnswer S p M c.kernel c.parts

-- one of the three, for the set M
abbrev pub TellsFound : {X : Type 0} → Scalars → ParityProblem → List ℕ → Found X → Type 0
TellsFound S p M (found.Larger m) = (m.problem ≡ p) × IsLargerThan S p M m.set
TellsFound S p M (found.Best c) = MakesGoodAnswer S p M c
TellsFound S p M (found.Sets Ls) = All (IsAsLargeAs S p M) Ls.items

-- one of the two, for the set M
abbrev pub TellsWalked : {X : Type 0} → Scalars → ParityProblem → List ℕ → Walked X → Type 0
TellsWalked S p M (walked.Larger L) = IsLargerThan S p M L
TellsWalked S p M (walked.Best c) = MakesGoodAnswer S p M c

-- the problem stays, and so does how many lines the set has
pub record KeepsSize (before after : Chosen) : Type 0 where
  pub problem : after.problem ≡ before.problem
  pub size : length after.set ≡ length before.set
