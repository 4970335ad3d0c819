use Rattle.std.proofs.Common.{◌≡◌, map, take}
use Rattle.matching_state.proofs.coefficients.front.Given as goal

abbrev pub invariant-loop-i : goal.invariant-loop-i
invariant-loop-i g l = map g.F.Field.number l.front.items ≡ take l.i l.row
