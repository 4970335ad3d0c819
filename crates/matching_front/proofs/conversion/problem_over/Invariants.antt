use Rattle.std.proofs.Common.{◌≡◌, length, take}
use Rattle.graph_problems.specs.GraphLines.{matching_problem}
use Rattle.matching_front.proofs.conversion.problem_over.Given as goal

abbrev pub invariant-loop-edge : goal.invariant-loop-edge
invariant-loop-edge g l = l.problem ≡ matching_problem g.F.Field.scalars (length l.graph.names) (take l.edge l.graph.ends)
