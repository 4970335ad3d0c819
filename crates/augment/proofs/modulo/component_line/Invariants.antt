use Rattle.std.proofs.Common.{ℕ, ◌<◌, map}
use Rattle.matching_state.proofs.FoundSupports.{IsZeroAt}
use Rattle.augment.proofs.modulo.component_line.Given as goal

abbrev pub invariant-loop-i : goal.invariant-loop-i
invariant-loop-i g l = (k : ℕ) → k < l.i → IsZeroAt g.F.Field.scalars (map g.F.Field.number l.coordinates) k
