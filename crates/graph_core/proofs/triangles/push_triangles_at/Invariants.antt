use Rattle.std.proofs.Common.{◌≡◌, ◌++◌, length}
use Rattle.graph_core.specs.Gathered.{gathered, triangles_on}
use Rattle.graph_core.proofs.triangles.push_triangles_at.Given as goal

abbrev pub invariant-loop-second : goal.invariant-loop-second
invariant-loop-second l = l.found ≡ l.initial.found ++ gathered (triangles_on l.neighbours (length l.neighbours) l.first) l.second
