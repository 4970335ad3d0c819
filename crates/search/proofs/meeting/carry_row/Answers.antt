use Rattle.std.proofs.Common.{◌≡◌, ◌∙◌, length, map, refl, sym, ap, subst, arith}
use Rattle.std.proofs.lemmas.List.{length-map}
use Rattle.search.proofs.Lengths.{added_long}
use Rattle.search.specs.Meetings.{IsPairIndex}
use Rattle.search.proofs.meeting.carry_row.Goals as goal

pub put_pair-requires-clause-gone : goal.put_pair-requires-clause-gone
put_pair-requires-clause-gone g c =
    let f = g.F.Field.number in
    let tip = c.args.tip.now in
    let half : length c.add_multiple.new.self ≡ length c.args.row.now =
    added_long g.F.Field.scalars c.args.row.now (map f tip) c.add_multiple.new.self _ _ c.add_multiple.ensures refl
    (length-map tip f ∙ sym c.requires.long) in
    let long : length c.as_mut_slice.result.now ≡ length tip =
    sym (length-map c.as_mut_slice.result.now f) ∙ ap length c.as_mut_slice.ensures.value ∙ half ∙ c.requires.long in
    subst (IsPairIndex c.args.out) (sym long) c.requires.gone

pub put_pair-requires-clause-new : goal.put_pair-requires-clause-new
put_pair-requires-clause-new g c =
    let f = g.F.Field.number in
    let tip = c.args.tip.now in
    let half : length c.add_multiple.new.self ≡ length c.args.row.now =
    added_long g.F.Field.scalars c.args.row.now (map f tip) c.add_multiple.new.self _ _ c.add_multiple.ensures refl
    (length-map tip f ∙ sym c.requires.long) in
    let long : length c.as_mut_slice.result.now ≡ length tip =
    sym (length-map c.as_mut_slice.result.now f) ∙ ap length c.as_mut_slice.ensures.value ∙ half ∙ c.requires.long in
    subst (IsPairIndex c.args.into) (sym long) c.requires.new

pub returns : goal.returns
returns g c =
    let f = g.F.Field.number in
    let tip = c.args.tip.now in
    let entries = c.put_pair.new.entries in
    let now = c.as_mut_slice.result.now in
    let half : length c.add_multiple.new.self ≡ length c.args.row.now =
    added_long g.F.Field.scalars c.args.row.now (map f tip) c.add_multiple.new.self _ _ c.add_multiple.ensures refl
    (length-map tip f ∙ sym c.requires.long) in
    let lent : length now ≡ length c.add_multiple.new.self = sym (length-map now f) ∙ ap length c.as_mut_slice.ensures.value in
    let kept : length entries ≡ length now = omega arith in
    let written : length (map f entries) ≡ length c.add_multiple.new.self = length-map entries f ∙ kept ∙ lent in
    ap length (c.as_mut_slice.ensures.whole (map f entries) written) ∙ written ∙ half
