use Rattle.std.proofs.Common.{◌<◌, ℕ}
use Rattle.matching_state.specs.Pairs.{HasNoPair}
use Rattle.matching_state.proofs.matched.Matched.pair_of.Given as goal

abbrev pub invariant-loop-i : goal.invariant-loop-i
invariant-loop-i g l = (k : ℕ) → k < l.i → HasNoPair g.F.Field.scalars g.F.Field.number l.self.problem l.self.set l.entries k
