-- A sequence of numbers below 2^32, each from the one before by a linear congruence.
use Rattle.std.specs.Prelude.{ℕ, zero, suc, ◌+◌, ◌*◌, ◌/◌, ◌%◌, ◌^◌}

-- the state after x
abbrev pub following : ℕ → ℕ
following x = (x * 1664525 + 1013904223) % 2 ^ 32

-- the state after so many steps from n
unfoldable pub state_after : ℕ → ℕ → ℕ
state_after n zero = n
state_after n (suc k) = following (state_after n k)

-- the answers, counted from 0: the upper halves of the states after n
abbrev pub answer : ℕ → ℕ → ℕ
answer n k = state_after n (suc k) / 65536
