use Rattle.packed_rows.proofs.Elements.{count_is}
use Rattle.packed_rows.proofs.packed.PackedF2.len.Goals as goal

pub returns : goal.returns
returns c = count_is c.self.inside.words.items c.self.inside.count c.args.self.now c.self.view_is
