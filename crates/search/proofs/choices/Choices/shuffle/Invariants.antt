use Rattle.std.proofs.Common.{ℕ, ◌<◌, All}
use Rattle.search.proofs.choices.Choices.shuffle.Given as goal

abbrev pub invariant-loop-i : goal.invariant-loop-i
invariant-loop-i l = (n : ℕ) → All (λ m. m < n) l.initial.items → All (λ m. m < n) l.items
