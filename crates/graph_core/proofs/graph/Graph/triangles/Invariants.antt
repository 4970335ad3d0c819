use Rattle.std.proofs.Common.{◌≡◌, length}
use Rattle.graph_core.specs.Gathered.{gathered, triangles_at}
use Rattle.graph_core.proofs.graph.Graph.triangles.Given as goal

abbrev pub invariant-loop-first : goal.invariant-loop-first
invariant-loop-first l = l.found ≡ gathered (triangles_at l.neighbours-inside.rows.items (length l.neighbours-inside.rows.items)) l.first
