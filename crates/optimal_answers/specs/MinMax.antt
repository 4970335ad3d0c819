-- The two sides of the min-max theorem: sizes of independent sets, and bounds of certificates.
use Rattle.std.specs.Prelude.{◌≡◌, ℕ, suc, ◌≤◌, List, length}
use Rattle.field_core.specs.Matrix.{Matrix}
use Rattle.linear_algebra.specs.Scalars.{Scalars}
use Rattle.parity_lines.specs.Certificates.{IsCertificate, IsGoodAnswer, bound}
use Rattle.parity_lines.specs.LineSets.{IsIndependentSet}
use Rattle.parity_lines.specs.Problems.{ParityProblem}

-- some independent set has k lines, and none has more
pub record IsGreatestSize (S : Scalars) (p : ParityProblem) (k : ℕ) : Type 0 where
  pub set : List ℕ
  pub independent_set : IsIndependentSet S p set
  pub size : length set ≡ k
  pub most : (other : List ℕ) → IsIndependentSet S p other → length other ≤ k

-- some certificate has bound k, and none a smaller one
pub record IsLeastBound (S : Scalars) (p : ParityProblem) (k : ℕ) : Type 0 where
  pub kernel : Matrix
  pub parts : List (List ℕ)
  pub certificate : IsCertificate S p kernel parts
  pub reached : bound S p kernel parts ≡ k
  pub least : (other : Matrix) (others : List (List ℕ)) → IsCertificate S p other others → k ≤ bound S p other others

-- some certificate makes a good answer with the set
pub record HasCertificate (S : Scalars) (p : ParityProblem) (set : List ℕ) : Type 0 where
  pub kernel : Matrix
  pub parts : List (List ℕ)
  pub is_good : IsGoodAnswer S p set kernel parts

-- some independent set has one line more
pub record HasLargerSet (S : Scalars) (p : ParityProblem) (set : List ℕ) : Type 0 where
  pub larger : List ℕ
  pub independent_set : IsIndependentSet S p larger
  pub one_more : length larger ≡ suc (length set)
