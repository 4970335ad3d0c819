use Rattle.packed_rows.proofs.Writes.{zeros_written, place_written, value_written, values_written}
use Rattle.packed_rows.proofs.packed.PackedF2.copy_of.Goals as goal

pub loop-i-init : goal.loop-i-init
loop-i-init c = zeros_written c.args.v.now (λ x. x.value) c.in_ok-row.row c.in_ok-row.ensures

pub put-requires : goal.put-requires
put-requires c = place_written c.args.v.now (λ x. x.value) c.loop-i.row c.loop-i.i c.loop-i-test.true c.loop-i.invariant

pub loop-i-preserved : goal.loop-i-preserved
loop-i-preserved c =
    value_written c.args.v.now (λ x. x.value) c.loop-i.row c.put.new.self c.loop-i.i c.index-v-i.result c.loop-i-test.true c.index-v-i.is
    c.put.ensures c.loop-i.invariant

pub returns : goal.returns
returns c = values_written c.args.v.now (λ x. x.value) c.loop-i.row c.loop-i.i c.loop-i-test.false c.loop-i.invariant
