use Rattle.std.proofs.Common.{map}
use Rattle.quotients.proofs.RowsAt.{row_made}
use Rattle.quotients.proofs.reduction.row_at.Goals as goal

pub returns : goal.returns
returns g c =
    let f = g.F.Field.number in
    let span = c.args.span.now in
    row_made g.F.Field.scalars g.met.F.Field.lawful span.width span.rows c.rank-rank.ensures.vectors c.args.position c.args.dimension
    c.in_ok-row.row (map f c.as_slice.result.now) c.in_ok-residue.residue (map f c.as_slice-2.result.now)
    c.add_multiple.new.self (f c.one.result) (f c.neg.result) c.requires.dimension c.requires.position c.in_ok-row.ensures
    c.as_slice.ensures.value c.in_ok-residue.ensures c.as_slice-2.ensures.value
    (g.met.F.Field.is_scalar c.neg.result) c.one.ensures c.neg.ensures c.add_multiple.ensures
