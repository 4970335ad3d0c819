use Rattle.std.proofs.Common.{◌≡◌, ◌∙◌, length, map, sym}
use Rattle.std.proofs.lemmas.List.{length-map}
use Rattle.search.proofs.Lengths.{added_long}
use Rattle.search.proofs.meeting.combined.Goals as goal

pub add_multiple-requires-in-loop-i : goal.add_multiple-requires-in-loop-i
add_multiple-requires-in-loop-i g c =
    let f = g.F.Field.number in
    let row = c.first.result.now in
    let half : length c.add_multiple.new.self ≡ c.problem-problem.result.now.dimension =
    added_long g.F.Field.scalars c.loop-i.v (map f row) c.add_multiple.new.self _ _ c.add_multiple.ensures c.loop-i.invariant
    (length-map row f ∙ c.first.ensures.long) in
    c.second.ensures.long ∙ sym half

pub loop-i-preserved : goal.loop-i-preserved
loop-i-preserved g c =
    let f = g.F.Field.number in
    let row = c.first.result.now in
    let other = c.second.result.now in
    let half : length c.add_multiple.new.self ≡ c.problem-problem.result.now.dimension =
    added_long g.F.Field.scalars c.loop-i.v (map f row) c.add_multiple.new.self _ _ c.add_multiple.ensures c.loop-i.invariant
    (length-map row f ∙ c.first.ensures.long) in
    added_long g.F.Field.scalars c.add_multiple.new.self (map f other) c.add_multiple-in-loop-i.new.self _ _
    c.add_multiple-in-loop-i.ensures half (length-map other f ∙ c.second.ensures.long)
