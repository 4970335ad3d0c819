use Rattle.std.proofs.Common.{ℕ, ◌<◌, map}
use Rattle.overlap.specs.Points.{HaveBothAt}
use Rattle.overlap.proofs.point.common_index.Given as goal

abbrev pub invariant-loop-i : goal.invariant-loop-i
invariant-loop-i g l = (k : ℕ) → k < l.i → ¬ (HaveBothAt g.F.Field.scalars (map g.F.Field.number l.first) (map g.F.Field.number l.second) k)
