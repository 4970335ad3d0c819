use Rattle.std.proofs.Common.{◌*◌}
use Rattle.packed_rows.specs.Words.{AreZero}
use Rattle.packed_rows.proofs.lanes.chunks_are_zero.Given as goal

abbrev pub invariant-loop-chunk : goal.invariant-loop-chunk
invariant-loop-chunk l = AreZero (4 * l.chunk-index) l.words
