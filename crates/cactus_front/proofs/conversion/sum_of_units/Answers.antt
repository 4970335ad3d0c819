use Rattle.std.proofs.Common.{map, ap, ◌∙◌}
use Rattle.cactus_front.proofs.CactusLists.{sum-units}
use Rattle.cactus_front.proofs.conversion.sum_of_units.Goals as goal

pub returns : goal.returns
returns g c = sum-units g.F.Field.scalars g.met.F.Field.lawful c.args.dimension c.args.a c.args.b (g.F.Field.number c.one.result)
    c.in_ok-sum.sum c.add_multiple.new.self (map g.F.Field.number c.deref-2.result.now) c.add_multiple.ensures c.one.ensures
    (c.in_ok-sum.ensures ∙ ap (map g.F.Field.number) c.deref.ensures.value ∙ c.in_ok-unit_vector.ensures.value)
    (ap (map g.F.Field.number) c.deref-2.ensures.value ∙ c.in_ok-unit_vector-2.ensures.value)
