-- Elements that move by one place.
use Rattle.std.specs.Prelude.{◌≡◌, ℕ, ◌+◌, ◌<◌, ◌≤◌}

-- what stands from `from` on toward `to` has the values of the next places in that direction;
-- the other places, `to` among them, have their own
pub record AreShifted (from to : ℕ) (old new : ℕ → ℕ) : Type 0 where
  pub down : (i : ℕ) → from ≤ i → i < to → new i ≡ old (i + 1)
  pub up : (i : ℕ) → to ≤ i → i < from → new (i + 1) ≡ old i
  pub end : new to ≡ old to
  pub below : (i : ℕ) → i < from → i < to → new i ≡ old i
  pub above : (i : ℕ) → from < i → to < i → new i ≡ old i
