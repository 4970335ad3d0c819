-- Directions of lines over an independent set of lines.
use Rattle.std.specs.Prelude.{◌≡◌, ◌≢◌, ◌⊎◌, ℕ, ◌<◌, List, [], ◌∷◌, ◌++◌, length, slice_index_or}
use Rattle.vector_spaces.proofs.Within.{Within}
use Rattle.linear_algebra.specs.Scalars.{Scalars, IsField}
use Rattle.linear_algebra.specs.Vectors.{zero_vector}
use Rattle.linear_algebra.proofs.Coordinates.{space, tuple}
use Rattle.echelon.specs.Residues.{IsResidue}
use Rattle.parity_lines.specs.Problems.{ParityProblem, line_at, vectors_at}
use Rattle.parity_lines.specs.Relations.{IsMonicMultiple}
use Rattle.parity_lines.proofs.Border.{tuples_at}
use Rattle.parity_theory.proofs.Lines.{IsFree, vectors}
use Rattle.classes.specs.declared.direction.Direction.{Direction}
use Rattle.classes.specs.declared.direction.Direction.TheVariants.{Inside, Along}
use Rattle.classes.specs.declared.direction.Outlook.{Outlook}
use Rattle.classes.specs.declared.direction.Outlook.TheVariants.{Free, Directions}

-- a and b are the residues modulo the span of M of the two vectors of l
pub record HaveResidues (S : Scalars) (p : ParityProblem) (M : List ℕ) (l : ℕ) (a b : List ℕ) : Type 0 where
  pub first : IsResidue S p.dimension (vectors_at p M) (line_at p l).0 a
  pub second : IsResidue S p.dimension (vectors_at p M) (line_at p l).1 b

-- a is a monic multiple of the residue of a vector of l, with which M spans l
pub record IsAlong (S : Scalars) (F : IsField S) (p : ParityProblem) (M : List ℕ) (l : ℕ) (a : List ℕ) : Type 0 where
  pub outer : List ℕ
  pub of_line : (outer ≡ (line_at p l).0) ⊎ (outer ≡ (line_at p l).1)
  pub residue : List ℕ
  pub is_residue : IsResidue S p.dimension (vectors_at p M) outer residue
  pub not_zero : residue ≢ zero_vector S p.dimension
  pub monic : IsMonicMultiple S residue a
  pub spans : Within (space S F p.dimension) (vectors (tuples_at S F p) (l ∷ [])) (vectors (tuples_at S F p) M ++ tuple S F p.dimension outer ∷ [])

-- M spans l, or l adds one along a
abbrev pub IsDirection : {X : Type 0} → (S : Scalars) → IsField S → ParityProblem → List ℕ → ℕ → Direction X → Type 0
IsDirection S F p M l Inside = Within (space S F p.dimension) (vectors (tuples_at S F p) (l ∷ [])) (vectors (tuples_at S F p) M)
IsDirection S F p M l (Along a) = IsAlong S F p M l a

-- the directions of the lines below n, in order
pub record AreDirections {X : Type 0} (S : Scalars) (F : IsField S) (p : ParityProblem) (M : List ℕ) (n : ℕ) (ds : List (Direction X)) : Type 0 where
  pub long : length ds ≡ n
  pub each : (l : ℕ) (d : Direction X) → l < n → IsDirection S F p M l (slice_index_or ds l d)

-- a line that is free, or all directions
abbrev pub TellsOutlook : {X : Type 0} → (S : Scalars) → IsField S → ParityProblem → List ℕ → Outlook X → Type 0
TellsOutlook S F p M (Free l) = (l < length p.lines) × IsFree (space S F p.dimension) (tuples_at S F p) M l
TellsOutlook S F p M (Directions ds) = AreDirections S F p M (length p.lines) ds.items

-- both are directions of lines that aren't spanned, and they differ
abbrev pub AreApart : {X : Type 0} → Direction X → Direction X → Type 0
AreApart Inside e = ⊥
AreApart (Along a) Inside = ⊥
AreApart (Along a) (Along b) = a ≢ b
