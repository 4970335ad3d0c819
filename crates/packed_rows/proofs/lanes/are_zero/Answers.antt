use Rattle.packed_rows.proofs.Chunks.{word_zero}
use Rattle.packed_rows.proofs.lanes.are_zero.Goals as goal

pub loop-i-init : goal.loop-i-init
loop-i-init c = c.chunks_are_zero.ensures.0 c.if-not-chunks_are_zero.false

pub loop-i-preserved : goal.loop-i-preserved
loop-i-preserved c = word_zero c.args.words.now c.loop-i.i c.if-words-i-ne0.false c.loop-i.invariant
