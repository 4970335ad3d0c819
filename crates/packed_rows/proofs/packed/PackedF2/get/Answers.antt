use Rattle.std.proofs.Common.{◌≡◌, ◌%◌, sym, ◌∙◌, arith}
use Rattle.std.specs.Int.{bit_at}
use Rattle.std.proofs.lemmas.Nat.Bits.{bit_at-lt}
use Rattle.packed_rows.proofs.Elements.{place_within, bit_read}
use Rattle.packed_rows.proofs.packed.PackedF2.get.Goals as goal

pub index-requires : goal.index-requires
index-requires c =
    let words = c.self.inside.words in
    place_within words.items c.self.inside.count c.args.self.now c.args.i words.len c.self.invariant c.self.view_is c.requires words.ok.0

pub returns-then-index-i-eq1 : goal.returns-then-index-i-eq1
returns-then-index-i-eq1 c =
    let read = bit_read c.self.inside.words.items c.self.inside.count c.args.self.now c.args.i c.index.result.now c.self.invariant
    c.self.view_is c.requires c.index.ensures in
    c.one.ensures ∙ sym c.if-index-i-eq1.true ∙ read

pub returns-else-index-i-eq1 : goal.returns-else-index-i-eq1
returns-else-index-i-eq1 c =
    let read = bit_read c.self.inside.words.items c.self.inside.count c.args.self.now c.args.i c.index.result.now c.self.invariant
    c.self.view_is c.requires c.index.ensures in
    let none : bit_at c.index.result.now (c.args.i % 64) ≡ 0 =
    omega (arith, c.if-index-i-eq1.false, bit_at-lt c.index.result.now (c.args.i % 64)) in
    c.zero.ensures ∙ sym none ∙ read
