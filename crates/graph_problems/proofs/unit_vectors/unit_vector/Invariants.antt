use Rattle.std.proofs.Common.{◌≡◌, map}
use Rattle.graph_problems.proofs.unit_vectors.unit_vector.Given as goal
use Rattle.graph_problems.specs.GraphLines.{unit_vector}

abbrev pub invariant-loop-coordinate : goal.invariant-loop-coordinate
invariant-loop-coordinate g l = map g.F.Field.number l.vector.items ≡ unit_vector g.F.Field.scalars l.coordinate l.place
