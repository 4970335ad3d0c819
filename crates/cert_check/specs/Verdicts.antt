-- What a verdict says of an answer, with the reasons in their order.
use Rattle.std.specs.Prelude.{◌≡◌, ◌≢◌, ℕ, ◌<◌, ◌≤◌, List, Option, Some, None, length}
use Rattle.field_core.specs.Matrix.{Matrix}
use Rattle.linear_algebra.specs.Scalars.{Scalars}
use Rattle.linear_algebra.specs.Spans.{IsIndependent}
use Rattle.parity_lines.specs.Problems.{ParityProblem, vectors_at}
use Rattle.parity_lines.specs.Certificates.{parts_with, bound, IsGoodAnswer}
use Rattle.cert_check.specs.declared.verdicts.Verdict.{Verdict}
use Rattle.cert_check.specs.declared.verdicts.Verdict.TheVariants.{Yes, Dependent, KernelDependent, PartsMissing, PartsTwice, BoundOff}

-- the vectors of the set are independent, and so are those of the kernel
pub record AreIndependent (S : Scalars) (p : ParityProblem) (set : List ℕ) (kernel : Matrix) : Type 0 where
  pub of_set : IsIndependent S p.dimension (vectors_at p set)
  pub of_kernel : IsIndependent S p.dimension kernel.rows

-- each position stands in some part
abbrev pub IsCovered : ParityProblem → List (List ℕ) → Type 0
IsCovered p parts = (m : ℕ) → m < length p.lines → 1 ≤ parts_with parts m

-- no position stands in two parts
abbrev pub IsDisjoint : ParityProblem → List (List ℕ) → Type 0
IsDisjoint p parts = (m : ℕ) → m < length p.lines → parts_with parts m ≤ 1

-- what is wrong with the parts, or that nothing is
abbrev pub IsFaultIn : ParityProblem → List (List ℕ) → Option Verdict → Type 0
IsFaultIn p parts None = IsCovered p parts × IsDisjoint p parts
IsFaultIn p parts (Some Yes) = ⊥
IsFaultIn p parts (Some Dependent) = ⊥
IsFaultIn p parts (Some KernelDependent) = ⊥
IsFaultIn p parts (Some (PartsMissing m)) = (m < length p.lines) × (parts_with parts m ≡ 0) × ((k : ℕ) → k < m → 1 ≤ parts_with parts k)
IsFaultIn p parts (Some (PartsTwice m)) =
    IsCovered p parts × (m < length p.lines) × (2 ≤ parts_with parts m) × ((k : ℕ) → k < m → parts_with parts k ≤ 1)
IsFaultIn p parts (Some (BoundOff size b)) = ⊥

-- the verdict is true of the set, the kernel and the parts, and no earlier reason applies
abbrev pub IsVerdictOn : Scalars → ParityProblem → List ℕ → Matrix → List (List ℕ) → Verdict → Type 0
IsVerdictOn S p set kernel parts Yes = IsGoodAnswer S p set kernel parts
IsVerdictOn S p set kernel parts Dependent = ¬ (IsIndependent S p.dimension (vectors_at p set))
IsVerdictOn S p set kernel parts KernelDependent =
    IsIndependent S p.dimension (vectors_at p set) × ¬ (IsIndependent S p.dimension kernel.rows)
IsVerdictOn S p set kernel parts (PartsMissing m) =
    AreIndependent S p set kernel × (m < length p.lines) × (parts_with parts m ≡ 0) × ((k : ℕ) → k < m → 1 ≤ parts_with parts k)
IsVerdictOn S p set kernel parts (PartsTwice m) =
    AreIndependent S p set kernel × IsCovered p parts × (m < length p.lines) × (2 ≤ parts_with parts m)
    × ((k : ℕ) → k < m → parts_with parts k ≤ 1)
IsVerdictOn S p set kernel parts (BoundOff size b) =
    AreIndependent S p set kernel × IsCovered p parts × IsDisjoint p parts × (size ≡ length set) × (b ≡ bound S p kernel parts) × (b ≢ size)
