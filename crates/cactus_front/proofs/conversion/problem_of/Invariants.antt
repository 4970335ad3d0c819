use Rattle.std.proofs.Common.{◌≡◌, map, take}
use Rattle.graph_problems.specs.GraphLines.{triangle_problem}
use Rattle.cactus_front.specs.CactusLists.{triple_of}
use Rattle.cactus_front.proofs.conversion.problem_of.Given as goal

abbrev pub invariant-loop-i : goal.invariant-loop-i
invariant-loop-i g l = l.problem ≡ triangle_problem g.F.Field.scalars l.dimension (map triple_of (take l.i l.triangles))
