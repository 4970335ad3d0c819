use Rattle.std.proofs.Common.{◌≡◌, ◌++◌, map}
use Rattle.linear_algebra.specs.Vectors.{zero_vector}
use Rattle.parity_lines.proofs.independence.push_zeros.Given as goal

abbrev pub invariant-loop-zero : goal.invariant-loop-zero
invariant-loop-zero g l = map g.F.Field.number l.entries.items ≡ map g.F.Field.number l.initial.entries.items ++ zero_vector g.F.Field.scalars l._zero
