use Rattle.std.proofs.Common.{length, refl, arith}
use Rattle.linear_algebra.specs.Vectors.{IsVector}
use Rattle.coordinates.specs.Bases.{IsPivoted}
use Rattle.frames.proofs.Walks.{changed_none, changed_more, next_keeps}
use Rattle.frames.proofs.pivoting.pivot_lists.Goals as goal

pub loop-t-init : goal.loop-t-init
loop-t-init g c = changed_none (IsPivoted g.F.Field.scalars c.args.i c.args.incoming.now) c.args.lists.now c.args.lists.now refl

pub pivot_list-requires-clause-list : goal.pivot_list-requires-clause-list
pivot_list-requires-clause-list g c =
    next_keeps (IsPivoted g.F.Field.scalars c.args.i c.args.incoming.now) c.args.lists.now c.loop-t.lists c.loop-t.t c.loop-t.invariant
    (IsVector g.F.Field.scalars (length c.args.incoming.now)) c.index-lists-t.result c.requires.lists (omega arith)

pub loop-t-preserved : goal.loop-t-preserved
loop-t-preserved g c =
    changed_more (IsPivoted g.F.Field.scalars c.args.i c.args.incoming.now) c.args.lists.now c.loop-t.lists c.loop-t.t c.loop-t.invariant
    c.index-lists-t.result c.pivot_list.new.list (omega arith) c.pivot_list.ensures

pub returns-clause-many : goal.returns-clause-many
returns-clause-many g c = c.loop-t.invariant.many

pub returns-clause-each : goal.returns-clause-each
returns-clause-each g c = λ t l. let e = c.loop-t.invariant.many in c.loop-t.invariant.done t (omega arith)
