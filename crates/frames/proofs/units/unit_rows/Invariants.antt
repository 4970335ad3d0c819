use Rattle.std.proofs.Common.{◌≡◌, map}
use Rattle.std.specs.List.{range_with_len}
use Rattle.coordinates.specs.Bases.{unit_vector}
use Rattle.frames.proofs.units.unit_rows.Given as goal

abbrev pub invariant-loop-i : goal.invariant-loop-i
invariant-loop-i g l = l.rows ≡ record { width = l.width; rows = map (unit_vector g.F.Field.scalars l.width) (range_with_len 0 l.i) }
