-- The form of a graph text: line by line, and name by name, the graph of all that was read.
use Rattle.std.specs.Prelude.{ℕ, ◌+◌, List, [], ◌∷◌, ◌++◌, length, ◌||◌, nat_le, nat_lt, if◌then◌else◌, Option, None, Some, Result, Ok, Err, slice_set, slice_index_or, codes}
use Rattle.std.specs.Str.{bytes_eq}
use Rattle.graph_core.specs.NamedGraphs.{NamedGraph, with_vertex}
use Rattle.graph_text.specs.Statements.{is_among, number_in}
use Rattle.line_lexer.specs.declared.fault.TextFault.TheVariants.{Word, Classed}
use Rattle.line_lexer.specs.declared.refusal.Counted.TheVariants.{Vertices, Edges, NameBytes}
use Rattle.line_lexer.specs.declared.refusal.TextRefusal.{TextRefusal}
use Rattle.text_forms.specs.Forms.{Form, line, version}
use Rattle.text_forms.specs.Places.{Place, word}
use Rattle.text_forms.specs.Reading.{Reads, ◌>>=◌, give, fault, above}

-- what was read so far: a graph, and how many classes
pub record Begun : Type 0 where
  pub graph : NamedGraph
  pub classes : ℕ

-- go on with the value alone
abbrev pub value_then : {T A B : Type 0} → (A → Result B TextRefusal) → Result (A × List T) TextRefusal → Result B TextRefusal
value_then next (Ok x) = next x.0
value_then next (Err e) = Err e

-- all that is left, each by itself: it changes what was read before
unfoldable pub each : {T A : Type 0} → (A → Reads T A) → A → Reads T A
each next x at [] = Ok (x, [])
each next x at (t ∷ more) = value_then (λ y. each next y at more) (next x at (t ∷ []))

-- one or more, up to the end
abbrev pub some : {T A : Type 0} → (A → Reads T A) → A → Reads T A
some next x = next x >>= each next

-- with a vertex of this name
abbrev pub with_name : NamedGraph → List ℕ → NamedGraph
with_name g name = if is_among g.names name then g else with_vertex g name

-- the graph with a vertex of this name, and the number of the vertex; a new one is within the limit
unfoldable pub named : ℕ → NamedGraph → List ℕ → Place (NamedGraph × ℕ)
named most g name = if is_among g.names name || nat_lt (length g.names) most then give (with_name g name, number_in (with_name g name).names name) else above Vertices (most + 1)

-- the same, for a name of at most 32 bytes
unfoldable pub spelled_vertex : ℕ → NamedGraph → List ℕ → Place (NamedGraph × ℕ)
spelled_vertex most g name = if nat_le (length name) 32 then named most g name else above NameBytes (length name)

-- the vertex that a word names
unfoldable pub vertex : ℕ → NamedGraph → Place (NamedGraph × ℕ)
vertex most g = do
  name ← word
  spelled_vertex most g name

-- a vertex
unfoldable pub free_vertex : ℕ → NamedGraph → Place NamedGraph
free_vertex most g = do
  x ← vertex most g
  give x.0

-- the vertex is put into the class, if it is in none
abbrev pub put_in : ℕ → NamedGraph → ℕ → Option ℕ → Place NamedGraph
put_in class g v (Some other) = fault Classed
put_in class g v None = give (record g { classes = slice_set g.classes v (Some class) })

-- a vertex of a class
unfoldable pub class_vertex : ℕ → ℕ → NamedGraph → Place NamedGraph
class_vertex most class g = do
  x ← vertex most g
  put_in class x.0 x.1 (slice_index_or x.0.classes x.1 None)

-- the two ends of an edge
unfoldable pub two_ends : ℕ → NamedGraph → Place NamedGraph
two_ends most g = do
  first ← vertex most g
  second ← vertex most first.0
  give (record second.0 { ends = second.0.ends ++ (first.1, second.1) ∷ [] })

-- an edge within the limit
unfoldable pub edge_within : ℕ → NamedGraph → Place NamedGraph
edge_within most g = if nat_lt (length g.ends) 512 then two_ends most g else above Edges 513

-- the names of vertices
unfoldable pub vertex_names : ℕ → Begun → Place Begun
vertex_names most s = do
  g ← some (free_vertex most) s.graph
  give (record { graph = g; classes = s.classes })

-- the ends of an edge
unfoldable pub edge_names : ℕ → Begun → Place Begun
edge_names most s = do
  g ← edge_within most s.graph
  give (record { graph = g; classes = s.classes })

-- the names of the next class
unfoldable pub class_names : ℕ → Begun → Place Begun
class_names most s = do
  g ← some (class_vertex most s.classes) s.graph
  give (record { graph = g; classes = s.classes + 1 })

-- what follows the first word of a line
unfoldable pub after_word : ℕ → Begun → List ℕ → Place Begun
after_word most s first =
    if bytes_eq first (codes "vertex") then vertex_names most s
    else (if bytes_eq first (codes "edge") then edge_names most s
    else (if bytes_eq first (codes "class") then class_names most s
    else fault Word))

-- the words of a line
unfoldable pub statement : ℕ → Begun → Place Begun
statement most s = do
  first ← word
  after_word most s first

-- all lines that are left
abbrev pub statements : ℕ → Begun → Form Begun
statements most = each (λ s. line (statement most s))

-- nothing was read
abbrev pub nothing : Begun
nothing = record { graph = record { names = []; ends = []; classes = [] }; classes = 0 }

-- `graph 1`, and one line after the other, up to the end of the text
unfoldable pub graph : ℕ → Form NamedGraph
graph most = do
  _ ← line (version (codes "graph"))
  s ← statements most nothing
  give s.graph
