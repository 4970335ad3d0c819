-- A test of each number below a bound.
use Rattle.std.specs.Prelude.{◌≡◌, ℕ, ◌<◌, Bool, true, ◌&&◌, refl}
use Rattle.std.proofs.Common.{zero, suc, Decides}
use Rattle.std.proofs.lemmas.Bool.Decides.{Decides-below_and}

-- p holds of each number below n
abbrev pub all_below : (ℕ → Bool) → ℕ → Bool
all_below p zero = true
all_below p (suc n) = p n && all_below p n

-- what the test says of each number, where p decides P
pub all_below-at : (p : ℕ → Bool) (P : ℕ → Type 0) → ((k : ℕ) → Decides (p k) (P k)) → (n : ℕ) → all_below p n ≡ true → (k : ℕ) → k < n → P k
all_below-at p P each n h = (Decides-below_and p P (all_below p) each refl (λ _. refl) n).0 h
