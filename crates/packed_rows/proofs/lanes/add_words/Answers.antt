use Rattle.std.proofs.Common.{◌≡◌, ◌<◌, length, arith}
use Rattle.packed_rows.proofs.Chunks.{all_added, word_added}
use Rattle.packed_rows.proofs.lanes.add_words.Goals as goal

pub loop-i-init : goal.loop-i-init
loop-i-init c = c.add_chunks.ensures

pub loop-i-preserved : goal.loop-i-preserved
loop-i-preserved c =
    let source = c.args.source.now in
    let within : c.loop-i.i < length source = omega (arith, c.loop-i-test.true) in
    word_added c.args.target.now source c.loop-i.target c.loop-i.i c.requires within c.loop-i.invariant

pub returns : goal.returns
returns c =
    let source = c.args.source.now in
    let end : c.loop-i.i ≡ length source = omega (arith, c.loop-i-test.false, c.loop-i.auto.i-end) in
    all_added c.loop-i.i (length source) c.args.target.now source c.loop-i.target c.loop-i.invariant end
