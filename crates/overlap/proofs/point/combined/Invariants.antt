use Rattle.std.proofs.Common.{◌≡◌, ◌*◌, map, take}
use Rattle.linear_algebra.specs.Spans.{combination}
use Rattle.parity_lines.specs.Problems.{vectors_at}
use Rattle.overlap.proofs.point.combined.Given as goal

abbrev pub invariant-loop-i : goal.invariant-loop-i
invariant-loop-i g l = l.sum ≡ combination g.F.Field.scalars l.problem.dimension (take (2 * l.i) (map g.F.Field.number l.coefficients))
    (vectors_at l.problem (take l.i l.set))
