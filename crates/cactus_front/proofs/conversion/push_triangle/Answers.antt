use Rattle.std.proofs.Common.{length, ap, ◌∙◌}
use Rattle.cactus_front.proofs.CactusLists.{sum-length}
use Rattle.cactus_front.proofs.conversion.push_triangle.Goals as goal

pub push-requires-clause-first_long : goal.push-requires-clause-first_long
push-requires-clause-first_long g c = c.as_slice.ensures.len ∙ ap length c.in_ok-first.ensures
    ∙ sum-length g.F.Field.scalars g.met.F.Field.lawful c.dimension-dimension.result c.at.result c.at-2.result ∙ c.dimension-dimension.ensures

pub push-requires-clause-second_long : goal.push-requires-clause-second_long
push-requires-clause-second_long g c = c.as_slice-2.ensures.len ∙ ap length c.in_ok-second.ensures
    ∙ sum-length g.F.Field.scalars g.met.F.Field.lawful c.dimension-dimension.result c.at-3.result c.at-4.result ∙ c.dimension-dimension.ensures
