use Rattle.parity_program.proofs.GeneratedTexts.{generated_solvable}
use Rattle.parity_program.proofs.laws.generated_problems_are_solvable.Goals as goal

pub returns : goal.returns
returns c = generated_solvable
