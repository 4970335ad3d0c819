use Rattle.std.proofs.Common.{◌≡◌, ◌<◌, ◌*◌, ◌/◌, length, get_or, [], arith}
use Rattle.packed_rows.proofs.Chunks.{none_added, all_added, chunk_found, chunk_added}
use Rattle.packed_rows.proofs.lanes.add_chunks.Goals as goal

pub loop-i-init : goal.loop-i-init
loop-i-init c = none_added c.args.target.now c.args.source.now

pub loop-i-preserved : goal.loop-i-preserved
loop-i-preserved c =
    let source = c.args.source.now in
    let i = c.loop-i.i in
    let within : i < length source / 4 = omega (arith, c.loop-i-test.true, c.as_chunks.ensures.front_len) in
    chunk_added c.args.target.now source c.loop-i.target (get_or c.as_chunks.result.0.now i []) i c.requires within
    (chunk_found source c.as_chunks.result.0.now i c.as_chunks.ensures.front within) c.loop-i.invariant

pub returns : goal.returns
returns c =
    let source = c.args.source.now in
    let end : 4 * c.loop-i.i ≡ length source / 4 * 4 = omega (arith, c.loop-i-test.false, c.loop-i.auto.i-end, c.as_chunks.ensures.front_len) in
    all_added (4 * c.loop-i.i) (length source / 4 * 4) c.args.target.now source c.loop-i.target c.loop-i.invariant end
