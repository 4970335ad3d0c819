-- What a state keeps: a basis of the whole space that begins with the vectors of the set, and the coordinates of all lines over it.
use Rattle.std.specs.Prelude.{◌≡◌, ℕ, ◌*◌, ◌<◌, List, [], ◌++◌, length, take, slice_index_or}
use Rattle.std.specs.List.{range_with_len}
use Rattle.coordinates.specs.Bases.{IsBasis, unit_vectors}
use Rattle.linear_algebra.specs.Scalars.{Scalars}
use Rattle.linear_algebra.specs.Spans.{Combines}
use Rattle.matching_state.specs.Chosen.{Chosen}
use Rattle.parity_lines.specs.LineSets.{IsIndependentSet}
use Rattle.parity_lines.specs.Problems.{ParityProblem, vectors_at}

-- the vectors of all lines, two a line, and then the unit vectors: those of which coordinates are kept
abbrev pub kept_vectors : Scalars → ParityProblem → List (List ℕ)
kept_vectors S p = vectors_at p (range_with_len 0 (length p.lines)) ++ unit_vectors S p.dimension

-- each list of cs combines the vectors B to the vector of vs at its place
pub record AreCoordinates (S : Scalars) (d : ℕ) (B vs cs : List (List ℕ)) : Type 0 where
  pub one_each : length cs ≡ length vs
  pub combine : (i : ℕ) → i < length vs → Combines S d B (slice_index_or cs i []) (slice_index_or vs i [])

-- the basis begins with the vectors of the lines of L, two a line in order
pub record IsListed (S : Scalars) (p : ParityProblem) (L : List ℕ) (basis kept : List (List ℕ)) : Type 0 where
  pub is_basis : IsBasis S p.dimension basis
  pub begins : take (2 * length L) basis ≡ vectors_at p L
  pub coordinates : AreCoordinates S p.dimension basis (kept_vectors S p) kept

-- what a state is
pub record IsKept (S : Scalars) (state : Chosen) : Type 0 where
  pub independent : IsIndependentSet S state.problem state.set
  pub listed : IsListed S state.problem state.set state.basis state.kept
