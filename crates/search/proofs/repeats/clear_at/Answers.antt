use Rattle.std.proofs.Common.{◌∙◌, map, refl}
use Rattle.std.proofs.lemmas.List.{length-map}
use Rattle.search.proofs.Lengths.{added_long}
use Rattle.search.proofs.repeats.clear_at.Goals as goal

pub returns : goal.returns
returns g c =
    let f = g.F.Field.number in
    let other = c.as_slice-2.result.now in
    added_long g.F.Field.scalars c.args.row.now (map f other) c.add_multiple.new.self _ _ c.add_multiple.ensures refl
    (length-map other f ∙ c.as_slice-2.ensures.len ∙ c.requires.long)
