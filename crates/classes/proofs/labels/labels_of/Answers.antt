use Rattle.std.proofs.Common.{below_more, length, subst}
use Rattle.std.specs.Prelude.{MatchOption}
use Rattle.classes.specs.ClassLabels.{AreExactFor, IsTriple}
use Rattle.classes.specs.Tables.{akin_at}
use Rattle.classes.proofs.labels.labels_of.Goals as goal

pub loop-i-preserved : goal.loop-i-preserved
loop-i-preserved c =
    let t = c.args.table.now in
    below_more _ _ c.loop-i.invariant
    (subst (λ o. MatchOption o (AreExactFor (length t.live) (akin_at t) c.loop-i.i) (IsTriple (length t.live) (akin_at t))) c.in_default.is
    c.violation_at.ensures)
