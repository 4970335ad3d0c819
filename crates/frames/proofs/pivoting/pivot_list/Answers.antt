use Rattle.std.proofs.Common.{length, sym, ◌∙◌}
use Rattle.frames.proofs.Eliminations.{less_share_long, pivot_one, pivot_none}
use Rattle.frames.proofs.pivoting.pivot_list.Goals as goal

pub put-requires : goal.put-requires
put-requires g c =
    let f = g.F.Field.number in
    less_share_long g.F.Field.scalars g.met.F.Field.lawful (length c.args.incoming.now) c.args.i c.args.incoming.now c.args.list.now (f c.args.factor)
    c.requires.incoming c.requires.list c.requires.place (g.met.F.Field.is_scalar c.args.factor) c.requires.factor
    (f c.get.result) (f c.mul-share.result) (f c.neg.result) c.axpy.new.self c.get.ensures c.mul-share.ensures
    (g.met.F.Field.is_scalar c.neg.result) c.neg.ensures c.axpy.ensures

pub returns : goal.returns
returns g c =
    let f = g.F.Field.number in
    pivot_one g.F.Field.scalars g.met.F.Field.lawful (length c.args.incoming.now) c.args.i c.args.incoming.now c.args.list.now (f c.args.factor)
    c.requires.incoming c.requires.list c.requires.place (g.met.F.Field.is_scalar c.args.factor) c.requires.factor
    (f c.get.result) (f c.mul-share.result) (f c.neg.result) c.axpy.new.self c.get.ensures c.mul-share.ensures
    (g.met.F.Field.is_scalar c.neg.result) c.neg.ensures c.axpy.ensures c.put.new.self c.put.ensures

pub returns-then-eq : goal.returns-then-eq
returns-then-eq g c =
    let f = g.F.Field.number in
    pivot_none g.F.Field.scalars g.met.F.Field.lawful (length c.args.incoming.now) c.args.i c.args.incoming.now c.args.list.now (f c.args.factor)
    c.requires.incoming c.requires.list c.requires.place (g.met.F.Field.is_scalar c.args.factor) c.requires.factor
    (f c.get.result) (f c.mul-share.result) c.get.ensures c.mul-share.ensures
    ((g.met.F.Field.equals c.mul-share.result c.zero.result).0 (sym c.eq.ensures ∙ c.if-eq.true) ∙ c.zero.ensures)
