-- Reduced echelon bases.
use Rattle.std.specs.Prelude.{◌≡◌, ◌≢◌, ℕ, ◌<◌, List, [], length, slice_index, slice_index_or}
use Rattle.std.specs.List.Sorted.{IsStrictlyIncreasing}
use Rattle.linear_algebra.specs.Scalars.{Scalars}
use Rattle.linear_algebra.specs.Vectors.{AreVectors}
use Rattle.echelon.specs.Leads.{LeadsAt}

-- row i leads at the i-th of the pivots, with one, and no other row has an entry there; the pivots increase
pub record IsReducedBy (S : Scalars) (rows : List (List ℕ)) (pivots : List ℕ) : Type 0 where
  pub one_each : length pivots ≡ length rows
  pub increasing : IsStrictlyIncreasing pivots
  pub leads : (i : ℕ) → i < length rows → LeadsAt S (slice_index_or rows i []) (slice_index pivots i)
  pub one : (i : ℕ) → i < length rows → slice_index (slice_index_or rows i []) (slice_index pivots i) ≡ S.one
  pub alone : (i j : ℕ) → i < length rows → j < length rows → i ≢ j → slice_index (slice_index_or rows j []) (slice_index pivots i) ≡ S.zero

-- a reduced echelon basis: with some pivots
pub record IsReducedBasis (S : Scalars) (d : ℕ) (rows : List (List ℕ)) : Type 0 where
  pub vectors : AreVectors S d rows
  pub pivots : List ℕ
  pub reduced : IsReducedBy S rows pivots
