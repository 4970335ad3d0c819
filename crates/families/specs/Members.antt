-- What a family keeps: of each member the set and its span, and the subspace that they have in common.
use Rattle.std.specs.Prelude.{◌≡◌, ℕ, ◌<◌, List, All, length, map, take, slice_index_or}
use Rattle.field_core.specs.Matrix.{Matrix}
use Rattle.linear_algebra.specs.Scalars.{Scalars}
use Rattle.linear_algebra.specs.Spans.{InSpan}
use Rattle.parity_lines.specs.Problems.{ParityProblem}
use Rattle.quotients.specs.Subspaces.{HasElements}
use Rattle.families.specs.Families.{IsFamily, IsCommon, Spans}
use Rattle.families.specs.declared.member.Member.{Member}

-- the sets of the members
abbrev pub sets_of : {X : Type 0} → List (Member X) → List (List ℕ)
sets_of {X} members = map (λ (m : Member X). m.set) members

-- the subspace is that of the vectors x with P x
pub record IsSubspaceOf (S : Scalars) (p : ParityProblem) (space : Matrix) (P : List ℕ → Type 0) : Type 0 where
  pub width : space.width ≡ p.dimension
  pub elements : HasElements S space P

-- the span that is kept is that of the set's vectors
abbrev pub HasItsSpan : {X : Type 0} → Scalars → ParityProblem → Member X → Type 0
HasItsSpan S p m = IsSubspaceOf S p m.span (λ v. Spans S p v m.set)

pub record IsKept {X : Type 0} (S : Scalars) (p : ParityProblem) (members : List (Member X)) (common : Matrix) : Type 0 where
  pub family : IsFamily S (record { problem = p; sets = sets_of members })
  pub spans : All (HasItsSpan S p) members
  pub common_is : IsSubspaceOf S p common (IsCommon S (record { problem = p; sets = sets_of members }))

-- the span that is kept has v
abbrev pub SpansOf : {X : Type 0} → Scalars → List ℕ → Member X → Type 0
SpansOf S v m = InSpan S m.span.width m.span.rows v

-- the span of the member at i doesn't have v, and those before do
pub record IsFirstOutside {X : Type 0} (S : Scalars) (members : List (Member X)) (v : List ℕ) (i : ℕ) : Type 0 where
  pub within : i < length members
  pub outside : (m : Member X) → m ≡ slice_index_or members i m → ¬ (SpansOf S v m)
  pub before : All (SpansOf S v) (take i members)
