-- What holds of each line that a loop over a set has passed.
use Rattle.std.proofs.Common.{ℕ, ◌<◌, ◌≤◌, List, length, get_or, sym, ◌∙◌, subst, arith}
use Rattle.std.specs.List.{Contains}
use Rattle.std.proofs.lemmas.List.{get_or_default}

pub each_line : (P : ℕ → Type 0) (lines : List ℕ) (i : ℕ) → length lines ≤ i → ((k : ℕ) → k < i → P (get_or lines k 0)) → (m : ℕ) →
    Contains lines m → P m
each_line P lines i l h m c = subst P (sym (get_or_default lines c.0 m 0 c.1) ∙ c.2) (h c.0 (let k = c.1 in omega arith))
