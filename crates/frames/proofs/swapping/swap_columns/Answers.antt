use Rattle.std.proofs.Common.{◌≡◌, ◌<◌, length, refl, arith}
use Rattle.std.specs.List.{swap}
use Rattle.frames.proofs.Walks.{changed_none, changed_more, changed_by, next_keeps}
use Rattle.frames.proofs.swapping.swap_columns.Goals as goal

pub loop-t-init : goal.loop-t-init
loop-t-init g c = changed_none (λ list changed. changed ≡ swap list c.args.i c.args.j) c.args.lists.now c.args.lists.now refl

pub swap-requires-clause-first : goal.swap-requires-clause-first
swap-requires-clause-first g c =
    next_keeps (λ list changed. changed ≡ swap list c.args.i c.args.j) c.args.lists.now c.loop-t.lists c.loop-t.t c.loop-t.invariant
    (λ list. c.args.i < length list) c.index-lists-t.result c.requires.first (omega arith)

pub swap-requires-clause-second : goal.swap-requires-clause-second
swap-requires-clause-second g c =
    next_keeps (λ list changed. changed ≡ swap list c.args.i c.args.j) c.args.lists.now c.loop-t.lists c.loop-t.t c.loop-t.invariant
    (λ list. c.args.j < length list) c.index-lists-t.result c.requires.second (omega arith)

pub loop-t-preserved : goal.loop-t-preserved
loop-t-preserved g c =
    changed_more (λ list changed. changed ≡ swap list c.args.i c.args.j) c.args.lists.now c.loop-t.lists c.loop-t.t c.loop-t.invariant
    c.index-lists-t.result c.swap.new.self (omega arith) c.swap.ensures

pub returns : goal.returns
returns g c =
    let e = c.loop-t.invariant.many in
    changed_by (λ list. swap list c.args.i c.args.j) c.args.lists.now c.loop-t.lists c.loop-t.t (omega arith) c.loop-t.invariant
