-- Which lines of a set a vector has a component at.
use Rattle.std.specs.Prelude.{◌≡◌, ℕ, ◌+◌, ◌*◌, ◌<◌, ◌↔◌, List, length, slice_index}
use Rattle.std.specs.List.{Contains}
use Rattle.std.specs.List.Sorted.{IsStrictlyIncreasing}
use Rattle.linear_algebra.specs.Scalars.{Scalars}

-- at the line m of M the two coordinates cs, of which each line has a pair, are not both zero
pub record HasComponent (S : Scalars) (M cs : List ℕ) (m : ℕ) : Type 0 where
  pub index : ℕ
  pub within : index < length M
  pub line : slice_index M index ≡ m
  pub not_zero : ¬ ((slice_index cs (2 * index) ≡ S.zero) × (slice_index cs (2 * index + 1) ≡ S.zero))

-- L are the lines of M at which they are not
pub record IsSupport (S : Scalars) (M cs L : List ℕ) : Type 0 where
  pub increasing : IsStrictlyIncreasing L
  pub lines : (m : ℕ) → Contains L m ↔ HasComponent S M cs m
