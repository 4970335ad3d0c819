use Rattle.std.proofs.Common.{subst}
use Rattle.overlap.specs.PointedOverlaps.{PointedOverlap, IsPoint}
use Rattle.overlap.proofs.pointed.Overlap.point.Goals as goal

pub returns-clause-is_point : goal.returns-clause-is_point
returns-clause-is_point g c = subst (λ (o : PointedOverlap). IsPoint g.F.Field.scalars o.problem o.set o.first o.second o.point) c.self.view_is
    c.self.invariant.point
