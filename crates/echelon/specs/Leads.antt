-- Where a vector leads: at its first entry that isn't zero.
use Rattle.std.specs.Prelude.{◌≡◌, ◌≢◌, ℕ, ◌<◌, List, length, slice_index}
use Rattle.linear_algebra.specs.Scalars.{Scalars}

-- v isn't zero at p, and zero before
pub record LeadsAt (S : Scalars) (v : List ℕ) (p : ℕ) : Type 0 where
  pub within : p < length v
  pub not_zero : slice_index v p ≢ S.zero
  pub zero_before : (k : ℕ) → k < p → slice_index v k ≡ S.zero
