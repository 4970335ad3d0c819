use Rattle.parity_program.proofs.Outcomes.{each_ending, refused_end, refused_outcome, refused_write, written_cause, written_outcome}
use Rattle.parity_program.proofs.Refusals.{refuses_only}
use Rattle.parity_program.proofs.running.run_command.Goals as goal
use Rattle.parity_program.specs.Outcome.{EndsAfterReading, HasReadCause, HasByteCause}
use Rattle.parity_program.specs.Shown.{shown}

pub returns-in-Ok-clause-outcome : goal.returns-in-Ok-clause-outcome
returns-in-Ok-clause-outcome g c =
    written_outcome c.args.command _ _ _ _ _ (shown c.in-Ok.reply) c.tell.result c.in-Ok.ensures.replies c.tell.ensures

pub returns-in-Ok-clause-end : goal.returns-in-Ok-clause-end
returns-in-Ok-clause-end g c =
    let at_end = c.in-Ok.ensures.end in
    each_ending (EndsAfterReading c.args.command _) c.args.command _ _ _ _ _ (shown c.in-Ok.reply) c.tell.result c.in-Ok.ensures.replies
    (λ e a s. at_end) (λ e a s. at_end) (λ a r. at_end) c.tell.ensures

pub returns-in-Ok-clause-read : goal.returns-in-Ok-clause-read
returns-in-Ok-clause-read g c =
    let same = c.in-Ok.ensures.read in
    each_ending (HasReadCause _ _) c.args.command _ _ _ _ _ (shown c.in-Ok.reply) c.tell.result c.in-Ok.ensures.replies (λ e a s. same)
    (λ e a s. same) (λ a r. same) c.tell.ensures

pub returns-in-Ok-clause-write : goal.returns-in-Ok-clause-write
returns-in-Ok-clause-write g c =
    written_cause c.args.command _ _ _ _ _ (shown c.in-Ok.reply) c.tell.result c.in-Ok.ensures.replies c.tell.ensures

pub returns-in-Ok-clause-long : goal.returns-in-Ok-clause-long
returns-in-Ok-clause-long g c =
    let few = c.in-Ok.ensures.long in
    each_ending (HasByteCause _ _) c.args.command _ _ _ _ _ (shown c.in-Ok.reply) c.tell.result c.in-Ok.ensures.replies (λ e a s. few)
    (λ e a s. few) (λ a r. few) c.tell.ensures

pub returns-in-Err-clause-outcome : goal.returns-in-Err-clause-outcome
returns-in-Err-clause-outcome g c = refused_outcome c.args.command _ _ c.in-Err.status c.in-Err.ensures.replies

pub returns-in-Err-clause-end : goal.returns-in-Err-clause-end
returns-in-Err-clause-end g c =
    refused_end c.args.command _ c.in-Err.status (refuses_only c.args.command _ c.in-Err.status c.in-Err.ensures.replies)

pub returns-in-Err-clause-write : goal.returns-in-Err-clause-write
returns-in-Err-clause-write g c = refused_write _ c.in-Err.status (refuses_only c.args.command _ c.in-Err.status c.in-Err.ensures.replies)
