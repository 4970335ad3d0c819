use Rattle.echelon.proofs.Found.{leads_at}
use Rattle.echelon.proofs.elimination.first_nonzero.Goals as goal

pub returns-then-ne : goal.returns-then-ne
returns-then-ne g c =
    leads_at g.F.Field.scalars g.F.Field.number c.args.v.now c.loop-i.i c.index-v-i.result c.zero-zero.result
    (g.F.PartialEq.eq c.index-v-i.result c.zero-zero.result) c.ne.result c.loop-i-test.true c.index-v-i.is c.zero-zero.ensures
    (g.met.F.Field.equals c.index-v-i.result c.zero-zero.result).1 c.ne.ensures c.if-ne.true c.loop-i.invariant
