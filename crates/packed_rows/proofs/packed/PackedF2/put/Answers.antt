use Rattle.std.proofs.Common.{sym, ◌∙◌}
use Rattle.packed_rows.proofs.Elements.{place_within, flipped-words, flipped-elements}
use Rattle.packed_rows.proofs.packed.PackedF2.put.Goals as goal

pub index_mut-requires : goal.index_mut-requires
index_mut-requires c =
    let words = c.self.inside.words in
    place_within words.items c.self.inside.count c.args.self.now c.args.i words.len c.self.invariant c.self.view_is c.requires words.ok.0

pub invariant_of-self : goal.invariant_of-self
invariant_of-self c =
    flipped-words c.self.inside.words.items c.self.inside.count c.args.self.now c.args.i c.index_mut.result.now c.self.invariant
    c.self.view_is c.requires c.index_mut.ensures.value

pub returns-then-number : goal.returns-then-number
returns-then-number c =
    flipped-elements c.self.inside.words.items c.self.inside.count c.args.self.now c.args.i c.index_mut.result.now c.self.invariant
    c.self.view_is c.requires c.index_mut.ensures.value c.args.value.value c.args.value.small
    (λ same. c.if-number.true (c.number.ensures ∙ c.get.ensures ∙ same ∙ sym c.number-2.ensures))
