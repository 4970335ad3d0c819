-- Sums modulo q, of two numbers below q.
use Rattle.std.proofs.Common.{◌≡◌, ℕ, ◌+◌, ◌%◌, ◌<◌, ◌∙◌, ap}
use Rattle.std.proofs.Math.Nat.{mod-eq_of_lt, add-mod_right}

-- a sum that is a, below q, leaves a
pub kept : (q a s : ℕ) → a < q → s ≡ a → s % q ≡ a
kept q a s l e = ap (λ t. t % q) e ∙ mod-eq_of_lt l

-- and so does one that is q above a
pub raised : (q a s : ℕ) → a < q → s ≡ a + q → s % q ≡ a
raised q a s l e = ap (λ t. t % q) e ∙ add-mod_right a q ∙ mod-eq_of_lt l
