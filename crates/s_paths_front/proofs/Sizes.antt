-- The coordinates of a graph's problem, its offset, and the negative of one modulo 251.
use Rattle.std.proofs.Common.{◌≡◌, ℕ, ◌+◌, ◌-◌, ◌<◌, List, [], arith, Bool}
use Rattle.std.specs.Prelude.{◌%◌}
use Rattle.graph_theory.specs.Counts.{count}
use Rattle.path_theory.specs.Coordinates.{dimension}
use Rattle.path_theory.specs.Terminals.{IsOffset, free_components}
use Rattle.path_theory.proofs.Monotone.{offset_exists}
use Rattle.path_theory.proofs.PairTests.{dimension-count}

pub coordinates : (n : ℕ) (P : ℕ → Bool) → n + (n - count n P) ≡ dimension n P
coordinates n P = omega (arith, dimension-count n P, offset_exists n P [])

pub offset_of : (n : ℕ) (terminal : ℕ → Bool) (E : List (ℕ × ℕ)) → IsOffset n terminal E
    (n - count n terminal - free_components n terminal E)
offset_of n terminal E = omega (arith, offset_exists n terminal E)

pub opposite_of_one : (m : ℕ) → m < 251 → (1 + m) % 251 ≡ 0 → m ≡ 250
opposite_of_one m l e = omega arith
