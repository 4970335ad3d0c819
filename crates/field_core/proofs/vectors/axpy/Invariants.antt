use Rattle.std.proofs.Common.{◌≡◌, map}
use Rattle.field_core.proofs.Loops.{summed}
use Rattle.field_core.proofs.vectors.axpy.Given as goal

abbrev pub invariant-loop-i : goal.invariant-loop-i
invariant-loop-i g l = map g.F.Field.number l.target ≡ summed g.F.Field.scalars l.i (g.F.Field.number l.factor) (map g.F.Field.number l.initial.target) (map g.F.Field.number l.source)
