use Rattle.std.proofs.Common.{◌≡◌, ℕ, List, Option, None, Some, Result, Ok, Err}
use Rattle.std.specs.Prelude.{IfOk}
use Rattle.linear_algebra.specs.Scalars.{Scalars}
use Rattle.matching_state.specs.DirectSteps.{TellsDirectStep}
use Rattle.parity_lines.specs.LineSets.{IsIndependentSet}
use Rattle.parity_lines.specs.Problems.{ParityProblem}
use Rattle.parity_program.proofs.improve.improved.Goals as goal
use Rattle.parity_program.specs.Improvements.{Improvement, TellsImprovement, of_step}
use Rattle.parity_program.specs.Improvements.Improvement.{dependent}
use Rattle.parity_program.specs.Replies.{IsImprovementReply, improvement_reply}
use Rattle.parity_program.specs.Shown.{shown}
use Rattle.parity_program.specs.declared.reply.Reply.{Reply}

-- what is told of the set, with the reply to it
replied : {E : Type 0} (S : Scalars) (p : ParityProblem) (M : List ℕ) (improvement : Improvement) (r : Result Reply E)
    → TellsImprovement S p M improvement
    → IfOk r (λ reply. shown reply ≡ improvement_reply improvement) → IfOk r (λ reply. IsImprovementReply S p M (shown reply))
replied S p M improvement (Ok reply) told is = (improvement, told, is)
replied S p M improvement (Err e) told is = tt

-- what a step from an independent set says of it
stepped : (S : Scalars) (p : ParityProblem) (M : List ℕ) (step : Option (List ℕ)) → IsIndependentSet S p M → TellsDirectStep S p M step
    → TellsImprovement S p M (of_step step)
stepped S p M None independent told = (independent, told)
stepped S p M (Some N) independent told = (independent, told)

pub returns-in_ok-step-in-Ready : goal.returns-in_ok-step-in-Ready
returns-in_ok-step-in-Ready g c =
    let start = rw c.in-Ready.is at c.in_ok-matched.ensures in
    let step = c.in_ok-step-in-Ready.step in
    let told = stepped g.F.Field.scalars c.args.problem.now c.args.set.now step start.1 (rw (start.0.problem, start.0.set) at c.in_ok-step-in-Ready.ensures) in
    replied g.F.Field.scalars c.args.problem.now c.args.set.now (of_step step) c.step_reply.result told c.step_reply.ensures

pub returns-in-Relation : goal.returns-in-Relation
returns-in-Relation g c =
    replied g.F.Field.scalars c.args.problem.now c.args.set.now (dependent c.in-Relation.relation) c.relation_reply.result
    (rw c.in-Relation.is at c.in_ok-matched.ensures) c.relation_reply.ensures
