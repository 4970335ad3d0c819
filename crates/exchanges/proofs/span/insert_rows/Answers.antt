use Rattle.std.proofs.Common.{map, arith}
use Rattle.exchanges.proofs.GrownByRows.{grown_by_none, grown_by_row}
use Rattle.exchanges.proofs.span.insert_rows.Goals as goal

pub loop-i-init : goal.loop-i-init
loop-i-init g c = grown_by_none g.F.Field.scalars g.met.F.Field.lawful c.args.basis.now c.requires.vectors

pub loop-i-preserved : goal.loop-i-preserved
loop-i-preserved g c = grown_by_row g.F.Field.scalars g.met.F.Field.lawful c.args.vectors.now c.loop-i.i
    (map g.F.Field.number c.row.result.now) c.args.basis.now c.loop-i.basis c.insert.new.self c.in_ok-_found._found
    c.requires.width c.requires.vectors c.len-i-end.ensures.vectors
    (omega arith) c.row.ensures.value c.loop-i.invariant c.in_ok-_found.ensures.ok
