use Rattle.parity_program.proofs.Conversions.{solvable}
use Rattle.parity_program.proofs.laws.conversions_are_solvable.Goals as goal

pub returns : goal.returns
returns c = solvable c.graphs_are_within_limits.ensures.limits c.graphs_are_within_limits.ensures.classes
