use Rattle.std.proofs.Common.{◌≡◌, ◌<◌, sym, ◌∙◌, arith}
use Rattle.packed_rows.proofs.Elements.{count_is, cleared, kept}
use Rattle.packed_rows.proofs.packed.PackedF2.scale.Goals as goal

pub returns-then-number-eq0 : goal.returns-then-number-eq0
returns-then-number-eq0 c =
    cleared c.fill.new.self.items c.self.inside.words.len c.self.inside.count c.args.self.now c.args.factor.value
    (c.fill.ensures.items (λ y e. e)) (count_is c.self.inside.words.items c.self.inside.count c.args.self.now c.self.view_is)
    (sym c.number.ensures ∙ c.if-number-eq0.true)

pub returns-else-number-eq0 : goal.returns-else-number-eq0
returns-else-number-eq0 c =
    let small : c.args.factor.value < 2 = c.args.factor.small in
    let is : c.number.result ≡ c.args.factor.value = c.number.ensures in
    kept c.self.inside.words.items c.self.inside.count c.args.self.now c.args.factor.value c.self.view_is
    (omega (arith, small, is, c.if-number-eq0.false))
