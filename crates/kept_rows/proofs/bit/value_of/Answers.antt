use Rattle.std.proofs.Common.{◌≡◌, ◌<◌, sym, ap, ◌∙◌, arith}
use Rattle.kept_rows.specs.Kept.{scalar_of}
use Rattle.kept_rows.proofs.bit.value_of.Goals as goal

pub returns-then-number-eq1 : goal.returns-then-number-eq1
returns-then-number-eq1 g c = c.one.ensures ∙ ap (scalar_of g.F.Field.scalars) (sym (sym c.number.ensures ∙ c.if-number-eq1.true))

pub returns-else-number-eq1 : goal.returns-else-number-eq1
returns-else-number-eq1 g c =
    let small : c.args.bit.value < 2 = c.args.bit.small in
    let is : c.number.result ≡ c.args.bit.value = c.number.ensures in
    let none : c.args.bit.value ≡ 0 = omega (arith, small, is, c.if-number-eq1.false) in
    c.zero.ensures ∙ ap (scalar_of g.F.Field.scalars) (sym none)
