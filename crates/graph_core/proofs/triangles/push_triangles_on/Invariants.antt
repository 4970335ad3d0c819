use Rattle.std.proofs.Common.{◌≡◌, ◌++◌}
use Rattle.graph_core.specs.Gathered.{gathered, triangle_by}
use Rattle.graph_core.proofs.triangles.push_triangles_on.Given as goal

abbrev pub invariant-loop-third : goal.invariant-loop-third
invariant-loop-third l = l.found ≡ l.initial.found ++ gathered (triangle_by l.neighbours l.first l.second) l.third
