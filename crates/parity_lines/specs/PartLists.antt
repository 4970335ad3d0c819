-- Lists of parts.
use Rattle.std.specs.Prelude.{◌≢◌, ℕ, List, [], All, map, slice_index}
use Rattle.std.specs.List.Sorted.{IsStrictlyIncreasing}

-- positions that increase strictly, and at least one
pub record IsPartList (part : List ℕ) : Type 0 where
  pub increasing : IsStrictlyIncreasing part
  pub nonempty : part ≢ []

abbrev pub ArePartLists : List (List ℕ) → Type 0
ArePartLists parts = All IsPartList parts

-- the parts stand in increasing order of their least positions, which are their first
abbrev pub AreInOrder : List (List ℕ) → Type 0
AreInOrder parts = IsStrictlyIncreasing (map (λ part. slice_index part 0) parts)
