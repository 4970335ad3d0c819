use Rattle.std.proofs.Common.{◌≡◌, ◌<◌, sym, ◌∙◌, arith}
use Rattle.packed_rows.proofs.Elements.{same_lent, added-words, added-elements, none_added}
use Rattle.packed_rows.proofs.packed.PackedF2.axpy.Goals as goal

pub add_words-requires : goal.add_words-requires
add_words-requires c =
    same_lent c.self.inside.words.items c.source.inside.words.items c.self.inside.count c.source.inside.count c.args.self.now
    c.args.source.now c.self.invariant c.source.invariant c.self.view_is c.source.view_is c.requires
    c.deref_mut.result.now c.deref.result.now c.deref_mut.ensures.value c.deref.ensures.value

pub invariant_of-self : goal.invariant_of-self
invariant_of-self c =
    added-words c.self.inside.words.items c.source.inside.words.items c.self.inside.count c.source.inside.count c.args.self.now
    c.args.source.now c.self.invariant c.source.invariant c.self.view_is c.source.view_is c.requires
    c.deref_mut.result.now c.deref.result.now c.add_words.new.target c.self.inside.words.len c.deref_mut.ensures.value
    c.deref.ensures.value c.self.inside.words.ok.0 c.add_words.ensures

pub returns-then-number-eq1 : goal.returns-then-number-eq1
returns-then-number-eq1 c =
    added-elements c.self.inside.words.items c.source.inside.words.items c.self.inside.count c.source.inside.count c.args.self.now
    c.args.source.now c.self.invariant c.source.invariant c.self.view_is c.source.view_is c.requires
    c.deref_mut.result.now c.deref.result.now c.add_words.new.target c.self.inside.words.len c.deref_mut.ensures.value
    c.deref.ensures.value c.self.inside.words.ok.0 c.add_words.ensures c.args.factor.value
    (sym c.number.ensures ∙ c.if-number-eq1.true)

pub returns-else-number-eq1 : goal.returns-else-number-eq1
returns-else-number-eq1 c =
    let small : c.args.factor.value < 2 = c.args.factor.small in
    let is : c.number.result ≡ c.args.factor.value = c.number.ensures in
    none_added c.self.inside.words.items c.self.inside.count c.args.self.now c.args.source.now c.args.factor.value c.self.view_is
    c.requires (omega (arith, small, is, c.if-number-eq1.false))
