-- The second graph, with names and classes: its vertices are the darts, by number.
use Rattle.std.specs.Prelude.{ℕ, ◌+◌, List, [], ◌∷◌, ◌++◌, Option, None, length, map, slice_index_or}
use Rattle.std.specs.Fmt.{decimal}
use Rattle.graph_theory.specs.Numbers.{numbers_from}
use Rattle.graph_theory.specs.Walks.{edge_at}
use Rattle.path_theory.specs.Classes.{is_terminal}
use Rattle.graph_core.specs.NamedGraphs.{NamedGraph}
use Rattle.edge_path_theory.specs.Darts.{tail}
use Rattle.edge_path_theory.specs.SecondGraph.{second_edges}

-- the darts of m edges
abbrev pub darts : ℕ → List ℕ
darts m = numbers_from 0 (m + m)

-- the class of the vertex that a dart leaves, or none
abbrev pub class_left : NamedGraph → ℕ → Option ℕ
class_left g d = slice_index_or g.classes (tail (edge_at g.ends) d) None

-- each dart is named by its decimal, and has the class of the vertex that it leaves
abbrev pub second_graph : NamedGraph → NamedGraph
second_graph g = record {
  names = map decimal (darts (length g.ends));
  ends = second_edges (length g.ends) (edge_at g.ends) (is_terminal g.classes);
  classes = map (class_left g) (darts (length g.ends));
}

-- with these edges put last
abbrev pub with_edges : NamedGraph → List (ℕ × ℕ) → NamedGraph
with_edges g E = record g { ends = g.ends ++ E }

-- with the vertex of a dart put last, in a class or in none
abbrev pub with_dart : NamedGraph → ℕ → Option ℕ → NamedGraph
with_dart g d class = record g { names = g.names ++ decimal d ∷ []; classes = g.classes ++ class ∷ [] }
