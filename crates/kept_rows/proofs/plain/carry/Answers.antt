use Rattle.std.proofs.Common.{map, ◌∙◌}
use Rattle.kept_rows.proofs.Turns.{carried-length, carried-numbers}
use Rattle.kept_rows.proofs.plain.carry.Goals as goal

pub returns : goal.returns
returns g c =
    let f = g.F.Field.number in
    let entries = c.as_mut_slice.result.now in
    let written = c.carry_in.new.items in
    c.as_mut_slice.ensures.whole (map f written)
    (carried-length f entries written c.args.row.now c.args.from c.args.to c.as_mut_slice.ensures.value c.carry_in.ensures.len c.carry_in.ensures.after)
    ∙ carried-numbers f entries written c.args.row.now c.args.from c.args.to c.as_mut_slice.ensures.value c.carry_in.ensures.len c.carry_in.ensures.after
