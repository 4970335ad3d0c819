-- Pairs of coordinates, two for each line of a set.
use Rattle.std.specs.Prelude.{◌≡◌, ℕ, ◌+◌, ◌*◌, ◌/◌, ◌<◌, ◌⊎◌, List, length, slice_index}
use Rattle.linear_algebra.specs.Scalars.{Scalars}

-- the pair of cs at index i isn't zero
abbrev pub HasPairAt : Scalars → List ℕ → ℕ → Type 0
HasPairAt S cs i = ¬ ((slice_index cs (2 * i) ≡ S.zero) × (slice_index cs (2 * i + 1) ≡ S.zero))

-- the determinant of the pairs of cs and ds at index i is zero
abbrev pub AreProportionalAt : Scalars → List ℕ → List ℕ → ℕ → Type 0
AreProportionalAt S cs ds i = S.product (slice_index cs (2 * i)) (slice_index ds (2 * i + 1)) ≡ S.product (slice_index cs (2 * i + 1)) (slice_index ds (2 * i))

-- the pair of ds at index i is c times that of cs
abbrev pub IsRatioAt : Scalars → ℕ → List ℕ → List ℕ → ℕ → Type 0
IsRatioAt S c cs ds i = (slice_index ds (2 * i) ≡ S.product c (slice_index cs (2 * i))) × (slice_index ds (2 * i + 1) ≡ S.product c (slice_index cs (2 * i + 1)))

-- (a, b) is the pair of cs at index i, if that of ds is c times as much, and else zero
abbrev pub IsKeptAt : Scalars → ℕ → List ℕ → List ℕ → ℕ → ℕ → ℕ → Type 0
IsKeptAt S c cs ds i a b = (IsRatioAt S c cs ds i × (a ≡ slice_index cs (2 * i)) × (b ≡ slice_index cs (2 * i + 1))) ⊎
    (¬ (IsRatioAt S c cs ds i) × (a ≡ S.zero) × (b ≡ S.zero))

-- ks are the pairs of cs of which ds has c times as much, and zeros elsewhere
pub record AreKept (S : Scalars) (c : ℕ) (cs ds ks : List ℕ) : Type 0 where
  pub length_is : length ks ≡ 2 * (length cs / 2)
  pub each : (i : ℕ) → 2 * i + 1 < length ks → IsKeptAt S c cs ds i (slice_index ks (2 * i)) (slice_index ks (2 * i + 1))
