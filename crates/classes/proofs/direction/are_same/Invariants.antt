use Rattle.std.proofs.Common.{◌≡◌, map, take}
use Rattle.classes.proofs.direction.are_same.Given as goal

abbrev pub invariant-loop-i : goal.invariant-loop-i
invariant-loop-i g l = map g.F.Field.number (take l.i l.v) ≡ map g.F.Field.number (take l.i l.w)
