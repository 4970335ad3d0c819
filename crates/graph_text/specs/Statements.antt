-- What the lines of a graph text say, and the graph of which they speak.
use Rattle.std.specs.Prelude.{ℕ, ◌<◌, ◌≤◌, List, [], ◌∷◌, length, map, filter, Bool, not, codes}
use Rattle.std.specs.List.{AllByRecursion, flat_map, list_any, position, position_or_len}
use Rattle.std.specs.Str.{bytes_eq}
use Rattle.graph_core.specs.NamedGraphs.{NamedGraph}
use Rattle.vector_spaces.proofs.Distinct.{IsDistinct}

-- one line: names of vertices, an edge by the names of its ends, or the names of a class
pub data Statement : Type 0 where
  vertices : List (List ℕ) → Statement
  edge : List ℕ → List ℕ → Statement
  class : List (List ℕ) → Statement

-- the words of the line
abbrev pub statement_words : Statement → List (List ℕ)
statement_words (vertices names) = codes "vertex" ∷ names
statement_words (edge first second) = codes "edge" ∷ first ∷ second ∷ []
statement_words (class names) = codes "class" ∷ names

-- the names on the line
abbrev pub names_in : Statement → List (List ℕ)
names_in (vertices names) = names
names_in (edge first second) = first ∷ second ∷ []
names_in (class names) = names

-- the edge of the line, if it has one, by the names of its ends
abbrev pub edges_in : Statement → List (List ℕ × List ℕ)
edges_in (vertices names) = []
edges_in (edge first second) = (first, second) ∷ []
edges_in (class names) = []

-- the class of the line, if it has one
abbrev pub classes_in : Statement → List (List (List ℕ))
classes_in (vertices names) = []
classes_in (edge first second) = []
classes_in (class names) = names ∷ []

abbrev pub names_of : List Statement → List (List ℕ)
names_of statements = flat_map names_in statements

abbrev pub edges_of : List Statement → List (List ℕ × List ℕ)
edges_of statements = flat_map edges_in statements

abbrev pub classes_of : List Statement → List (List (List ℕ))
classes_of statements = flat_map classes_in statements

-- each name where it first appears
abbrev pub first_appearances : List (List ℕ) → List (List ℕ)
first_appearances [] = []
first_appearances (name ∷ names) = name ∷ filter (λ other. not (bytes_eq other name)) (first_appearances names)

-- the name is one of these
abbrev pub is_among : List (List ℕ) → List ℕ → Bool
is_among names name = list_any (bytes_eq name) names

-- the number of a name: where it first stands
abbrev pub number_in : List (List ℕ) → List ℕ → ℕ
number_in names name = position_or_len (bytes_eq name) names

-- The graph of these names, in order of their first appearance, with these edges and these classes. The class of a vertex is the
-- number of the first class that has its name, counted from 0.
abbrev pub named_graph : List (List ℕ) → List (List ℕ × List ℕ) → List (List (List ℕ)) → NamedGraph
named_graph names edges classes = record {
  names = first_appearances names;
  ends = map (λ e. (number_in (first_appearances names) e.0, number_in (first_appearances names) e.1)) edges;
  classes = map (λ name. position (λ members. is_among members name) classes) (first_appearances names);
}

-- the graph of which the statements speak
unfoldable pub graph_of : List Statement → NamedGraph
graph_of statements = named_graph (names_of statements) (edges_of statements) (classes_of statements)

-- a line of vertices or of a class has a name
abbrev pub HasName : Statement → Type 0
HasName statement = 0 < length (names_in statement)

-- what a graph text may say: names of at most 32 bytes, so many vertices at most, at most 512 edges, and no name twice in classes
pub record AreWithin (most : ℕ) (statements : List Statement) : Type 0 where
  pub some : AllByRecursion HasName statements
  pub short : AllByRecursion (λ name. length name ≤ 32) (names_of statements)
  pub few_vertices : length (first_appearances (names_of statements)) ≤ most
  pub few_edges : length (edges_of statements) ≤ 512
  pub apart : IsDistinct (flat_map (λ members. members) (classes_of statements))
