use Rattle.echelon.proofs.Found.{minus_times}
use Rattle.echelon.proofs.elimination.minus_inverse.Goals as goal

pub returns : goal.returns
returns g c =
    let small = g.met.F.Field.is_scalar in
    minus_times g.F.Field.scalars g.met.F.Field.lawful (g.F.Field.number c.args.x) (g.F.Field.number c.in-Some.inverse) (g.F.Field.number c.neg.result)
    (small c.args.x) (small c.in-Some.inverse) (small c.neg.result) c.in-Some.ensures.some c.neg.ensures
