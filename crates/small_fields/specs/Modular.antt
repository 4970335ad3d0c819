-- Numbers modulo q.
use Rattle.std.specs.Prelude.{ℕ, ◌+◌, ◌*◌, ◌%◌}
use Rattle.linear_algebra.specs.Scalars.{Scalars}

-- the numbers below q, with sums and products modulo q
abbrev pub modulo : ℕ → Scalars
modulo q = record { order = q; zero = 0; one = 1; sum = λ a b. (a + b) % q; product = λ a b. (a * b) % q }
