use Rattle.std.proofs.Common.{◌≡◌, map, take, replicate}
use Rattle.parity_lines.proofs.independence.lead_inverse.Given as goal

abbrev pub invariant-loop-x : goal.invariant-loop-x
invariant-loop-x g l = map g.F.Field.number (take l.x-index l.v) ≡ replicate l.x-index g.F.Field.scalars.zero
