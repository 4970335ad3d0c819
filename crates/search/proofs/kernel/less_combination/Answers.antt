use Rattle.std.proofs.Common.{◌∙◌, length, map, sym}
use Rattle.std.proofs.lemmas.List.{length-map}
use Rattle.search.proofs.Lengths.{added_long}
use Rattle.search.proofs.kernel.less_combination.Goals as goal

pub loop-i-preserved : goal.loop-i-preserved
loop-i-preserved g c =
    let f = g.F.Field.number in
    let row = c.row.result.now in
    added_long g.F.Field.scalars c.loop-i.left (map f row) c.add_multiple.new.self (f c.neg.result)
    (length c.args.v.now) c.add_multiple.ensures c.loop-i.invariant (length-map row f ∙ c.row.ensures.len ∙ sym c.requires.width)
