-- Classes as the parts of a certificate, and classes that are too large for a set.
use Rattle.std.specs.Prelude.{◌≡◌, ℕ, zero, suc, ◌+◌, ◌≤◌, ◌<◌, List, [], ◌∷◌, ◌++◌, length, slice_index}
use Rattle.class_theory.proofs.Classes.{class_lines, count_in}
use Rattle.field_core.specs.Matrix.{Matrix}
use Rattle.linear_algebra.specs.Ranks.{rank_over}
use Rattle.linear_algebra.specs.Scalars.{Scalars}
use Rattle.parity_lines.specs.Certificates.{IsCertificate, bound}
use Rattle.parity_lines.specs.Problems.{ParityProblem, vectors_at}
use Rattle.parity_theory.proofs.Parts.{has}
use Rattle.classes.specs.declared.division.Division.{Division}
use Rattle.classes.specs.declared.division.Division.TheVariants.{Parts, Large}

-- the numbers below n, in order
unfoldable pub listing : ℕ → List ℕ
listing zero = []
listing (suc n) = listing n ++ n ∷ []

-- the lines with a label, in order
abbrev pub class_list : List ℕ → ℕ → List ℕ
class_list labels c = class_lines (slice_index labels) (listing (length labels)) c

-- labels of the lines below n: no label is above its line, and each has itself as its label
pub record AreLeast (n : ℕ) (labels : List ℕ) : Type 0 where
  pub long : length labels ≡ n
  pub at_most : (i : ℕ) → i < n → slice_index labels i ≤ i
  pub own : (i : ℕ) → i < n → slice_index labels (slice_index labels i) ≡ slice_index labels i

-- no vector
abbrev pub no_kernel : ParityProblem → Matrix
no_kernel p = record { width = p.dimension; rows = [] }

-- each line of the problem is in exactly one part, none is empty, and the halves of their ranks add up to k
abbrev pub ArePartsOfBound : Scalars → ParityProblem → ℕ → List (List ℕ) → Type 0
ArePartsOfBound S p k parts = IsCertificate S p (no_kernel p) parts × (bound S p (no_kernel p) parts ≡ k)

-- the lines with the label c, whose rank is two or more above twice the lines that M has of them
pub record IsLargeClass (S : Scalars) (p : ParityProblem) (labels M : List ℕ) (c : ℕ) (class : List ℕ) : Type 0 where
  pub within : c < length labels
  pub own : slice_index labels c ≡ c
  pub is : class ≡ class_list labels c
  pub large : count_in (has class) M + count_in (has class) M + 2 ≤ rank_over S p.dimension [] (vectors_at p class)

abbrev pub TellsDivision : Scalars → ParityProblem → List ℕ → List ℕ → Division → Type 0
TellsDivision S p labels M (Parts parts) = ArePartsOfBound S p (length M) parts
TellsDivision S p labels M (Large c class) = IsLargeClass S p labels M c class
