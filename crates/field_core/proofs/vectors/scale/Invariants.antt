use Rattle.std.proofs.Common.{◌≡◌, map}
use Rattle.field_core.proofs.Loops.{scaled}
use Rattle.field_core.proofs.vectors.scale.Given as goal

abbrev pub invariant-loop-x : goal.invariant-loop-x
invariant-loop-x g l = map g.F.Field.number l.target ≡ scaled g.F.Field.scalars l.x-index (g.F.Field.number l.factor) (map g.F.Field.number l.initial.target)
