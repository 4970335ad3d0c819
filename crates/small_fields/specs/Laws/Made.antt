-- Values that are made of a number and a fact about it are equal where their numbers are.
use Rattle.std.specs.Prelude.{◌≡◌, ℕ, ◌<◌}
use Rattle.std.specs.Coded.{le_prop}
use Rattle.std.proofs.Common.{subst, ap}

-- where the fact holds in one way at most
pub same_made : {S : Type 0} (P : ℕ → Type 0) → ((n : ℕ) → IsProp (P n)) → (make : (n : ℕ) → P n → S) → (a b : ℕ) (p : P a) (q : P b) → a ≡ b → make a p ≡ make b q
same_made P prop make a b p q e = subst (λ n. (h : P n) → make a p ≡ make n h) e (λ h. ap (make a) (prop a p h)) q

-- and so where the fact is a bound
pub same_below : {S : Type 0} (m : ℕ) (make : (n : ℕ) → n < m → S) → (a b : ℕ) (p : a < m) (q : b < m) → a ≡ b → make a p ≡ make b q
same_below m make = same_made (λ n. n < m) (λ n. le_prop) make
