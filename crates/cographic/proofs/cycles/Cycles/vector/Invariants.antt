use Rattle.std.proofs.Common.{◌≡◌, map, take}
use Rattle.cographic.specs.Cycles.{entry_by}
use Rattle.cographic.proofs.cycles.Cycles.vector.Given as goal

abbrev pub invariant-loop-i : goal.invariant-loop-i
invariant-loop-i g l = map g.F.Field.number l.vector.items ≡ map (entry_by g.F.Field.scalars l.edge) (take l.i l.self)
