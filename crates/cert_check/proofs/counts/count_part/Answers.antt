use Rattle.std.proofs.Common.{◌<◌, length, subst, sym, arith}
use Rattle.std.proofs.lemmas.List.Elements.{All-get_or}
use Rattle.cert_check.proofs.Counting.{count_step}
use Rattle.cert_check.proofs.counts.count_part.Goals as goal

pub loop-i-preserved : goal.loop-i-preserved
loop-i-preserved c =
    let within = All-get_or (λ m. m < length c.args.counts.now) c.args.part.now c.loop-i.i 0 (omega arith) c.requires.within in
    count_step c.args.part.now c.args.counts.now c.loop-i.counts c.loop-i.i c.at-line.result c.min.result c.len-i-end.ensures.increasing
    (omega arith) c.at-line.ensures c.loop-i.auto.counts
    (subst (λ m. m < length c.args.counts.now) (sym c.at-line.ensures) within) c.min.ensures c.loop-i.invariant
