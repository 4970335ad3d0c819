-- The four prime orders.
use Rattle.std.specs.Prelude.{◌≡◌, ◌≢◌, ℕ, ◌%◌, ◌<◌, Bool, true, ◌||◌, nat_lt, refl}
use Rattle.std.proofs.Common.{arith, lit<, Decides}
use Rattle.std.proofs.lemmas.Bool.Decides.{nat_tests}
use Rattle.small_fields.specs.Prime.{IsPrime}
use Rattle.small_fields.specs.Laws.Tests.{all_below, all_below-at}

-- the test that d does not divide q, or is at most one
abbrev undivided : ℕ → ℕ → Bool
undivided q d = nat_lt d 2 || nat_lt 0 (q % d)

-- what the test says
Decides-undivided : (q d : ℕ) → Decides (undivided q d) (1 < d → q % d ≢ 0)
Decides-undivided q d = (λ h big e. grind (arith, nat_tests), λ h. grind (arith, nat_tests))

-- a number above one is prime where each number below it passes the test
is_prime : (q : ℕ) → 1 < q → all_below (undivided q) q ≡ true → IsPrime q
is_prime q big test = record {
  above_one = big;
  undivided = λ d above below. all_below-at (undivided q) (λ d. 1 < d → q % d ≢ 0) (Decides-undivided q) q test d below above;
}

pub prime_2 : IsPrime 2
prime_2 = is_prime 2 (lit< tt) refl

pub prime_3 : IsPrime 3
prime_3 = is_prime 3 (lit< tt) refl

pub prime_5 : IsPrime 5
prime_5 = is_prime 5 (lit< tt) refl

pub prime_251 : IsPrime 251
prime_251 = is_prime 251 (lit< tt) refl
