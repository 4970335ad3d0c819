use Rattle.std.proofs.Common.{◌≡◌, ◌<◌, length, refl, arith}
use Rattle.packed_rows.specs.Carried.{carried}
use Rattle.frames.proofs.Walks.{changed_none, changed_more, changed_by, next_keeps}
use Rattle.frames.proofs.carrying.carry_columns.Goals as goal

pub loop-t-init : goal.loop-t-init
loop-t-init g c = changed_none (λ list changed. changed ≡ carried list c.args.from c.args.to) c.args.lists.now c.args.lists.now refl

pub carry-requires-clause-first : goal.carry-requires-clause-first
carry-requires-clause-first g c =
    next_keeps (λ list changed. changed ≡ carried list c.args.from c.args.to) c.args.lists.now c.loop-t.lists c.loop-t.t c.loop-t.invariant
    (λ list. c.args.from < length list) c.index-lists-t.result c.requires.first (omega arith)

pub carry-requires-clause-second : goal.carry-requires-clause-second
carry-requires-clause-second g c =
    next_keeps (λ list changed. changed ≡ carried list c.args.from c.args.to) c.args.lists.now c.loop-t.lists c.loop-t.t c.loop-t.invariant
    (λ list. c.args.to < length list) c.index-lists-t.result c.requires.second (omega arith)

pub loop-t-preserved : goal.loop-t-preserved
loop-t-preserved g c =
    changed_more (λ list changed. changed ≡ carried list c.args.from c.args.to) c.args.lists.now c.loop-t.lists c.loop-t.t c.loop-t.invariant
    c.index-lists-t.result c.carry.new.self (omega arith) c.carry.ensures

pub returns : goal.returns
returns g c =
    let e = c.loop-t.invariant.many in
    changed_by (λ list. carried list c.args.from c.args.to) c.args.lists.now c.loop-t.lists c.loop-t.t (omega arith) c.loop-t.invariant
