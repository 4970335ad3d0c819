use Rattle.std.proofs.Common.{◌+◌, ◌*◌, map}
use Rattle.parity_lines.proofs.Relations.{difference_not_zero}
use Rattle.parity_lines.proofs.independence.relation.Goals as goal

pub make_monic-requires : goal.make_monic-requires
make_monic-requires g c =
    difference_not_zero g.F.Field.scalars g.met.F.Field.lawful (map g.F.Field.number c.args.coefficients.now) c.in_ok-row.row (c.args.own_left + 2 * c.args.lines_left) c.in_ok-row.ensures
