use Rattle.std.proofs.Common.{map, sym}
use Rattle.std.proofs.lemmas.List.{length-map}
use Rattle.classes.proofs.SpreadParts.{length_with}
use Rattle.classes.proofs.spreads.add_line.Goals as goal

pub add_multiple-requires-2 : goal.add_multiple-requires-2
add_multiple-requires-2 g c =
    let f = g.F.Field.number in
    let v = c.first.result.now in
    rw c.second.ensures.long (sym (length_with g.F.Field.scalars c.args.problem.now.dimension (f c.args.first) c.args.row.now
    (map f v) c.add_multiple.new.self
    c.add_multiple.ensures c.requires.long (rw c.first.ensures.long at (length-map v f))))
