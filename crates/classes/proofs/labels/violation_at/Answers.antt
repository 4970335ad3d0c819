use Rattle.std.proofs.Common.{below_more, length, subst}
use Rattle.std.specs.Prelude.{MatchOption}
use Rattle.class_theory.proofs.Labels.{ExactAt}
use Rattle.classes.specs.ClassLabels.{IsTriple}
use Rattle.classes.specs.Tables.{akin_at}
use Rattle.classes.proofs.labels.violation_at.Goals as goal

pub loop-j-preserved : goal.loop-j-preserved
loop-j-preserved c =
    let t = c.args.table.now in
    below_more _ _ c.loop-j.invariant
    (subst (λ o. MatchOption o (ExactAt (akin_at t) c.args.i c.loop-j.j) (IsTriple (length t.live) (akin_at t))) c.in_default.is
    c.violation.ensures)
