use Rattle.std.proofs.Common.{map}
use Rattle.parity_lines.proofs.Relations.{zeros_more}
use Rattle.parity_lines.proofs.independence.push_zeros.Goals as goal

pub loop-zero-preserved : goal.loop-zero-preserved
loop-zero-preserved g c =
    let f = g.F.Field.number in
    zeros_more g.F.Field.scalars f (map f c.args.entries.now.items) c.loop-zero.entries.items c.push.new.self.items c.zero.result c.loop-zero._zero
    c.loop-zero.invariant c.in_ok-push.ensures.items c.zero.ensures
