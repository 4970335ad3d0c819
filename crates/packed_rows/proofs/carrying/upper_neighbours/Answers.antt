use Rattle.std.proofs.Common.{get_or, refl}
use Rattle.packed_rows.proofs.Shifts.{upper-bit}
use Rattle.packed_rows.proofs.carrying.upper_neighbours.Goals as goal

pub returns : goal.returns
returns c j l =
    let words = c.args.words.now in
    upper-bit words c.args.w (get_or words c.args.w 0) c.word_at.result j (c.type_inv.words c.args.w).fits refl c.word_at.ensures l
