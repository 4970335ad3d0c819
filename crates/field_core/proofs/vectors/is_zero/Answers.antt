use Rattle.field_core.proofs.Zeros.{not_all_zero}
use Rattle.field_core.proofs.vectors.is_zero.Goals as goal

pub returns-then-ne : goal.returns-then-ne
returns-then-ne g c = (
  λ never. absurd (cc),
  λ whole. absurd
      (not_all_zero g.F.Field.number c.args.v.now c.loop-x.x-index g.F.Field.scalars.zero c.x-item.result c.zero-zero.result
      (g.F.PartialEq.eq c.x-item.result c.zero-zero.result) c.ne.result c.loop-x-test.true c.x-item.is c.zero-zero.ensures
      (g.met.F.Field.equals c.x-item.result c.zero-zero.result).1 c.ne.ensures c.if-ne.true whole),
)
