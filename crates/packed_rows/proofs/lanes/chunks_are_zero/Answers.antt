use Rattle.std.proofs.Common.{◌<◌, ◌/◌, length, get_or, [], arith}
use Rattle.packed_rows.proofs.Chunks.{chunk_found, chunk_zero, lanes_zero}
use Rattle.packed_rows.proofs.lanes.chunks_are_zero.Goals as goal

pub loop-chunk-preserved : goal.loop-chunk-preserved
loop-chunk-preserved c =
    let words = c.args.words.now in
    let i = c.loop-chunk.chunk-index in
    let within : i < length words / 4 = omega (arith, c.loop-chunk-test.true, c.as_chunks.ensures.front_len) in
    chunk_zero words (get_or c.as_chunks.result.0.now i []) i
    (chunk_found words c.as_chunks.result.0.now i c.as_chunks.ensures.front within) c.if-chunk-ne0.false c.loop-chunk.invariant

pub returns-then-chunk-ne0 : goal.returns-then-chunk-ne0
returns-then-chunk-ne0 c =
    let words = c.args.words.now in
    let i = c.loop-chunk.chunk-index in
    let within : i < length words / 4 = omega (arith, c.loop-chunk-test.true, c.as_chunks.ensures.front_len) in (
      λ never. absurd (cc),
      λ z. absurd (c.if-chunk-ne0.true (lanes_zero words (get_or c.as_chunks.result.0.now i []) i within
          (chunk_found words c.as_chunks.result.0.now i c.as_chunks.ensures.front within) z)),
    )
