use Rattle.packed_rows.proofs.Elements.{zeros_held}
use Rattle.packed_rows.proofs.packed.PackedF2.zeros.Goals as goal

pub returns : goal.returns
returns c = zeros_held c.in_ok-words.words.items _ c.args.len (c.in_ok-words.ensures.items_if_clones_equal (λ y e. e))
