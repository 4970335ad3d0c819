-- The one spelling of the replies that speak of a graph, as lines of words.
use Rattle.std.specs.Prelude.{◌≡◌, ℕ, ◌+◌, ◌<◌, ◌%◌, List, [], ◌∷◌, ◌++◌, All, length, map, slice_index_or, codes, nat_eq, if◌then◌else◌}
use Rattle.std.specs.Fmt.{decimal}
use Rattle.std.specs.List.{zip}
use Rattle.std.specs.List.Sorted.{IsStrictlyIncreasing}
use Rattle.graph_core.specs.NamedGraphs.{NamedGraph}
use Rattle.graph_theory.specs.Cacti.{corners, IsLexicographic}
use Rattle.graph_theory.specs.Walks.{edge_at}
use Rattle.rotation_theory.specs.Darts.{edge}
use Rattle.text_forms.specs.Spelling.{counted_words, end_line}

-- the name of a vertex
abbrev pub name_at : NamedGraph → ℕ → List ℕ
name_at g v = slice_index_or g.names v []

-- an edge by its number from 1 and the names of its ends, as they were put
abbrev pub edge_words : NamedGraph → ℕ → List (List ℕ)
edge_words g e = codes "edge" ∷ decimal (e + 1) ∷ name_at g (edge_at g.ends e).0 ∷ name_at g (edge_at g.ends e).1 ∷ []

-- a word and the names of vertices
abbrev pub listed_words : List ℕ → NamedGraph → List ℕ → List (List ℕ)
listed_words word g vertices = word ∷ map (name_at g) vertices

abbrev pub matching_lines : NamedGraph → List ℕ → List (List (List ℕ))
matching_lines g edges = counted_words (codes "matching") 1 ∷ counted_words (codes "size") (length edges) ∷ map (edge_words g) edges ++ end_line

abbrev pub feedback_lines : NamedGraph → List ℕ → List (List (List ℕ))
feedback_lines g vertices = counted_words (codes "feedback") 1 ∷ counted_words (codes "size") (length vertices)
    ∷ listed_words (codes "vertices") g vertices ∷ end_line

abbrev pub cactus_lines : NamedGraph → List (List ℕ) → List (List (List ℕ))
cactus_lines g triangles = counted_words (codes "cactus") 1 ∷ counted_words (codes "size") (length triangles) ∷ map (listed_words (codes "triangle") g) triangles ++ end_line

abbrev pub paths_lines : NamedGraph → List (List ℕ) → List (List (List ℕ))
paths_lines g paths = counted_words (codes "paths") 1 ∷ counted_words (codes "count") (length paths) ∷ map (listed_words (codes "path") g) paths ++ end_line

-- a dart by the number of its edge from 1, and a sign: + at the first end, - at the second
abbrev pub dart_word : ℕ → List ℕ
dart_word d = decimal (edge d + 1) ++ (if nat_eq (d % 2) 0 then codes "+" else codes "-")

-- the darts of a path
abbrev pub dart_path_words : List ℕ → List (List ℕ)
dart_path_words ds = codes "path" ∷ map dart_word ds

abbrev pub edge_paths_lines : List (List ℕ) → List (List (List ℕ))
edge_paths_lines paths = counted_words (codes "edgepaths") 1 ∷ counted_words (codes "count") (length paths) ∷ map dart_path_words paths ++ end_line

-- the name of a vertex, and the darts that leave it
abbrev pub at_words : List ℕ × List ℕ → List (List ℕ)
at_words v = codes "at" ∷ v.0 ∷ map dart_word v.1

abbrev pub rotation_lines : NamedGraph → List (List ℕ) → ℕ → ℕ → List (List (List ℕ))
rotation_lines g lists genus faces = counted_words (codes "rotation") 1 ∷ counted_words (codes "genus") genus
    ∷ counted_words (codes "faces") faces ∷ map at_words (zip g.names lists) ++ end_line

-- vertices of the graph
abbrev pub AreVertices : NamedGraph → List ℕ → Type 0
AreVertices g vertices = All (λ v. v < length g.names) vertices

-- triples of vertices, each increasing, in lexicographic order
pub record AreTriples (lists : List (List ℕ)) : Type 0 where
  pub triples : List (ℕ × ℕ × ℕ)
  pub corners_of : lists ≡ map corners triples
  pub rise : All (λ (t : ℕ × ℕ × ℕ). (t.0 < t.1) × (t.1 < t.2)) triples
  pub ordered : IsLexicographic triples

-- the first vertex of a list, and its last
abbrev pub first_of : List ℕ → ℕ
first_of vertices = slice_index_or vertices 0 0

abbrev pub last_of_all : List ℕ → ℕ
last_of_all [] = 0
last_of_all (v ∷ []) = v
last_of_all (v ∷ w ∷ more) = last_of_all (w ∷ more)

-- each path begins at its end with the smaller number, and paths stand by increasing first vertex
pub record AreInOrder (paths : List (List ℕ)) : Type 0 where
  pub each : All (λ path. first_of path < last_of_all path) paths
  pub ordered : IsStrictlyIncreasing (map first_of paths)
