-- Exposed lines, and which of them overlap.
use Rattle.std.specs.Prelude.{◌≡◌, ℕ, ◌<◌, List, [], ◌∷◌, length, All}
use Rattle.std.specs.List.{Contains}
use Rattle.echelon.specs.Residues.{IsResidue}
use Rattle.linear_algebra.specs.Scalars.{Scalars}
use Rattle.linear_algebra.specs.Spans.{InSpan}
use Rattle.matching_state.specs.LinePlaces.{IsExposed, IsOuter, IsTip}
use Rattle.matching_state.specs.Supports.{IsSupport}
use Rattle.overlap.specs.declared.candidates.Candidate.{Candidate}
use Rattle.parity_lines.specs.LineSets.{HaveCommonLine}
use Rattle.parity_lines.specs.Problems.{ParityProblem, vectors_at}

-- x has the support of an exposed line, by some tip, and the residue of an outer of it
pub record IsCandidate {X : Type 0} (S : Scalars) (p : ParityProblem) (M : List ℕ) (x : Candidate X) : Type 0 where
  pub within : x.line < length p.lines
  pub exposed : IsExposed S p M x.line
  pub tip : List ℕ
  pub coordinates : List ℕ
  pub is_tip : IsTip S p M x.line tip coordinates
  pub is_support : IsSupport S M coordinates x.support
  pub outer : List ℕ
  pub is_outer : IsOuter S p M x.line outer
  pub is_residue : IsResidue S p.dimension (vectors_at p M) outer x.residue

-- xs are such lines, and have each exposed line below n
pub record AreCandidates {X : Type 0} (S : Scalars) (p : ParityProblem) (M : List ℕ) (n : ℕ) (xs : List (Candidate X)) : Type 0 where
  pub candidates : All (IsCandidate S p M) xs
  pub all : (e : ℕ) → e < n → IsExposed S p M e → (x : Candidate X) × Contains xs x × (x.line ≡ e)

-- the supports have a common line, and y's residue, of length d, is no multiple of x's
pub record DoOverlap {X : Type 0} (S : Scalars) (d : ℕ) (x y : Candidate X) : Type 0 where
  pub common : HaveCommonLine x.support y.support
  pub apart : ¬ (InSpan S d (x.residue ∷ []) y.residue)

-- one of xs, of the line h, overlaps with x
pub record HasPartner {X : Type 0} (S : Scalars) (x : Candidate X) (xs : List (Candidate X)) (h : ℕ) : Type 0 where
  pub partner : Candidate X
  pub partner_in : Contains xs partner
  pub line : partner.line ≡ h
  pub overlap : DoOverlap S (length x.residue) x partner

-- two of xs, of the lines e and h, overlap
pub record HaveOverlap {X : Type 0} (S : Scalars) (xs : List (Candidate X)) (e h : ℕ) : Type 0 where
  pub first : Candidate X
  pub first_in : Contains xs first
  pub line : first.line ≡ e
  pub second : HasPartner S first xs h
