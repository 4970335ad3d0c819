-- Lines that repeat the span of an earlier one.
use Rattle.std.specs.Prelude.{◌≡◌, ℕ, ◌<◌, List, All, length}

-- for each of n lines one of them
pub record AreFirsts (n : ℕ) (firsts : List ℕ) : Type 0 where
  pub one_each : length firsts ≡ n
  pub within : All (λ m. m < n) firsts
