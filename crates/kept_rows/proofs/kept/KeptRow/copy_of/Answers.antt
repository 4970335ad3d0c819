use Rattle.std.proofs.Common.{length, sym, ◌∙◌}
use Rattle.std.proofs.lemmas.List.{length-map}
use Rattle.packed_rows.proofs.Writes.{numbers, written_none, place_written, value_written, values_written}
use Rattle.kept_rows.proofs.Cases.{zeros_long}
use Rattle.kept_rows.proofs.kept.KeptRow.copy_of.Goals as goal

pub loop-i-init : goal.loop-i-init
loop-i-init g c =
    let v = c.args.v.now in
    let f = g.F.Field.number in
    written_none (numbers v f) c.in_ok-row.row
    (zeros_long c.in_ok-row.row (length v) g.F.Field.scalars.zero c.in_ok-row.ensures ∙ sym (length-map v f))

pub put-requires : goal.put-requires
put-requires g c = place_written c.args.v.now g.F.Field.number c.loop-i.row c.loop-i.i c.loop-i-test.true c.loop-i.invariant

pub loop-i-preserved : goal.loop-i-preserved
loop-i-preserved g c =
    value_written c.args.v.now g.F.Field.number c.loop-i.row c.put.new.self c.loop-i.i c.index-v-i.result c.loop-i-test.true
    c.index-v-i.is c.put.ensures c.loop-i.invariant

pub returns : goal.returns
returns g c = values_written c.args.v.now g.F.Field.number c.loop-i.row c.loop-i.i c.loop-i-test.false c.loop-i.invariant
