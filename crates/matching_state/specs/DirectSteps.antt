-- Sets that are one line longer than M, by one step: M with a line, or with two lines in the place of one.
use Rattle.std.specs.Prelude.{◌≡◌, ◌≢◌, ℕ, suc, ◌+◌, ◌*◌, ◌⊎◌, ◌↔◌, List, length, slice_index, Option, None, Some}
use Rattle.std.specs.List.{Contains}
use Rattle.linear_algebra.specs.Scalars.{Scalars}
use Rattle.parity_lines.specs.LineSets.{IsIndependentSet}
use Rattle.parity_lines.specs.Problems.{ParityProblem}

-- N has the lines of M, and e, which isn't one of them
pub record IsAddition (M : List ℕ) (e : ℕ) (N : List ℕ) : Type 0 where
  pub new : ¬ (Contains M e)
  pub lines : (l : ℕ) → Contains N l ↔ (Contains M l ⊎ (l ≡ e))

-- N has the lines of M but m, which is one of them, and e, which isn't
pub record IsSwap (M : List ℕ) (m e : ℕ) (N : List ℕ) : Type 0 where
  pub gone : Contains M m
  pub new : ¬ (Contains M e)
  pub lines : (l : ℕ) → Contains N l ↔ ((Contains M l × (l ≢ m)) ⊎ (l ≡ e))

-- N has the lines of M but m, and e and h, which are different and none of M
pub record IsTwoLineStep (M : List ℕ) (m e h : ℕ) (N : List ℕ) : Type 0 where
  pub gone : Contains M m
  pub first_new : ¬ (Contains M e)
  pub second_new : ¬ (Contains M h)
  pub different : e ≢ h
  pub lines : (l : ℕ) → Contains N l ↔ ((Contains M l × (l ≢ m)) ⊎ ((l ≡ e) ⊎ (l ≡ h)))

-- the determinant of the pairs of cs and ds at index i is not zero
abbrev pub HasDeterminantAt : Scalars → List ℕ → List ℕ → ℕ → Type 0
HasDeterminantAt S cs ds i = S.product (slice_index cs (2 * i)) (slice_index ds (2 * i + 1)) ≢ S.product (slice_index cs (2 * i + 1)) (slice_index ds (2 * i))

-- N comes of M by one step
abbrev pub IsDirectStep : List ℕ → List ℕ → Type 0
IsDirectStep M N = ((e : ℕ) × IsAddition M e N) ⊎ ((m : ℕ) × (e : ℕ) × (h : ℕ) × IsTwoLineStep M m e h N)

-- an independent set that comes of M by one step, and is one line longer; none exactly where there is no such set
abbrev pub TellsDirectStep : Scalars → ParityProblem → List ℕ → Option (List ℕ) → Type 0
TellsDirectStep S p M (Some N) = IsIndependentSet S p N × IsDirectStep M N × (length N ≡ suc (length M))
TellsDirectStep S p M None = (N : List ℕ) → IsDirectStep M N → ¬ (IsIndependentSet S p N)
