use Rattle.std.proofs.Common.{below_more, arith, refl, subst}
use Rattle.std.specs.List.{Contains}
use Rattle.parity_lines.proofs.LinesPassed.{each_line}
use Rattle.exchanges.proofs.offer.first_outside.Goals as goal

pub loop-i-preserved : goal.loop-i-preserved
loop-i-preserved c = below_more _ _ c.loop-i.invariant
    (subst (λ m. Contains c.args.target.now m) c.at-line.ensures (c.if-not-holds.ensures.0 refl))

pub returns : goal.returns
returns c = each_line (λ m. Contains c.args.target.now m) c.args.lines.now c.loop-i.i (omega arith) c.loop-i.invariant
