use Rattle.std.proofs.Common.{◌∙◌, map, refl, sym}
use Rattle.std.proofs.lemmas.List.{length-map}
use Rattle.search.proofs.Lengths.{added_long}
use Rattle.search.proofs.meeting.clear_pair.Goals as goal

pub returns : goal.returns
returns g c =
    let f = g.F.Field.number in
    let gone = c.as_slice.result.now in
    added_long g.F.Field.scalars c.args.row.now (map f gone) c.add_multiple.new.self _ _ c.add_multiple.ensures refl
    (length-map gone f ∙ c.as_slice.ensures.len ∙ sym c.requires.long)
