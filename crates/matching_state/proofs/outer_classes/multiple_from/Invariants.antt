use Rattle.std.proofs.Common.{◌≡◌, ◌≤◌, ◌-◌, take, drop}
use Rattle.linear_algebra.specs.Vectors.{multiple}
use Rattle.matching_state.proofs.outer_classes.multiple_from.Given as goal

abbrev pub invariant-loop-i : goal.invariant-loop-i
invariant-loop-i g l = (l.from ≤ l.i) × (l.tail.items ≡ take (l.i - l.from) (multiple g.F.Field.scalars (g.F.Field.number l.factor) (drop l.from l.row)))
