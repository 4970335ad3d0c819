use Rattle.std.proofs.Common.{◌∙◌}
use Rattle.linear_algebra.specs.Vectors.{multiple}
use Rattle.small_fields.specs.Modular.{modulo}
use Rattle.kept_rows.proofs.Cases.{packed_view, packed_kept, sum_kept, bits_of_sum}
use Rattle.kept_rows.proofs.kept.add_packed.Goals as goal

pub returns-clause-are_bits : goal.returns-clause-are_bits
returns-clause-are_bits g c =
    bits_of_sum c.args.bits.now (multiple (modulo 2) c.bit_of.result.value c.in-Packed.other) c.axpy.new.self c.axpy.ensures

pub returns-clause-value : goal.returns-clause-value
returns-clause-value g c =
    let S = g.F.Field.scalars in
    let order = g.F.Field.ORDER in
    let entries = c.source.inside.entries in
    let v = c.args.source.now in
    let other = c.in-Packed.other in
    sum_kept S g.met.F.Field.lawful (g.met.F.Field.order_is ∙ c.requires.order) c.args.bits.now other c.axpy.new.self v
    c.bit_of.result.value (g.F.Field.number c.args.factor) c.requires.are_bits
    (packed_kept S order entries v c.source.view_is c.source.invariant other c.in-Packed.is).1 c.bit_of.ensures.bit
    (packed_view S order entries v c.source.view_is c.source.invariant other c.in-Packed.is) c.axpy.ensures c.bit_of.ensures.stands
