use Rattle.std.proofs.Common.{◌<◌, ◌^◌, get_or, refl}
use Rattle.packed_rows.proofs.Shifts.{lower-bit}
use Rattle.packed_rows.proofs.carrying.lower_neighbours.Goals as goal

pub returns : goal.returns
returns c i j l e =
    let words = c.args.words.now in
    let fits : c.word_before.result < 2 ^ 64 = c.word_before.type_inv in
    lower-bit words c.args.w (get_or words c.args.w 0) c.word_before.result i j fits refl c.word_before.ensures l e
