use Rattle.std.proofs.Common.{ap, ◌∙◌, add-one}
use Rattle.generator.proofs.GrowingProblems.{no_lines, one_line_more}
use Rattle.generator.proofs.generated.problem.Goals as goal
use Rattle.generator.specs.Sequence.{state_after}
use Rattle.parity_lines.specs.Problems.{ParityProblem}

pub loop-line-init : goal.loop-line-init
unfolding state_after
loop-line-init c = record {
  state = c.new-generator.ensures;
  dimension = ap (λ (p : ParityProblem). p.dimension) c.new-problem.ensures;
  lines = no_lines c.args.n c.new-problem.result.lines (ap (λ (p : ParityProblem). p.lines) c.new-problem.ensures);
}

pub loop-line-preserved : goal.loop-line-preserved
loop-line-preserved c =
    let inv = c.loop-line.invariant in
    let r = one_line_more c.args.n c.loop-line.line _ _ c.loop-line.problem c.push_line.new.problem inv.state inv.lines c.in_ok-push_line.ensures in
    rw add-one record { state = r.0; dimension = r.1 ∙ inv.dimension; lines = r.2 }
