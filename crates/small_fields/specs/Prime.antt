-- Prime numbers.
use Rattle.std.specs.Prelude.{◌≢◌, ℕ, ◌%◌, ◌<◌}

-- q is above one, and no number between one and q divides it
pub record IsPrime (q : ℕ) : Type 0 where
  pub above_one : 1 < q
  pub undivided : (d : ℕ) → 1 < d → d < q → q % d ≢ 0
