-- A coordinate of a vector of a block, as the code finds it.
use Rattle.std.specs.Prelude.{◌≡◌, ℕ, ◌+◌, ◌-◌, ◌*◌, ◌&&◌, nat_lt, nat_le, if◌then◌else◌}
use Rattle.linear_algebra.specs.Scalars.{Scalars}
use Rattle.generator.specs.GeneratedProblems.{bit}

abbrev pub coordinate : ℕ → ℕ → ℕ → ℕ
coordinate b x c = if nat_lt c 4 then bit x c else if nat_le (7 * b + 4) c && nat_lt c (7 * b + 11) then bit x (c - 7 * b) else 0

-- zero and one are the numbers 0 and 1
pub record HasBits (S : Scalars) : Type 0 where
  pub zero : S.zero ≡ 0
  pub one : S.one ≡ 1
