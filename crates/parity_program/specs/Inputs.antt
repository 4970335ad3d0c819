-- What the bytes mean that a command is told: an input, or the status that refuses them.
use Rattle.std.specs.Prelude.{ℕ, ◌+◌, List, [], length, nat_lt, if◌then◌else◌, Option, None, Some, Result, Ok, Err}
use Rattle.graph_core.specs.NamedGraphs.{NamedGraph}
use Rattle.graph_text.specs.Texts.{graph}
use Rattle.line_lexer.specs.Lines.{Line}
use Rattle.line_lexer.specs.Seen.{most_bytes}
use Rattle.line_lexer.specs.declared.refusal.Counted.TheVariants.{Bytes, Edges, Triangles, Pairs, CycleRank}
use Rattle.line_lexer.specs.declared.refusal.TextRefusal.{TextRefusal}
use Rattle.line_lexer.specs.declared.refusal.TextRefusal.TheVariants as refusal
use Rattle.parity_lines.specs.Problems.{ParityProblem}
use Rattle.parity_program.specs.AdjacentPairs.{cycle_rank, pair_count}
use Rattle.parity_program.specs.Commands.{reads_source}
use Rattle.parity_program.specs.Connectedness.{first_apart}
use Rattle.parity_program.specs.CubicVertices.{first_not_cubic}
use Rattle.parity_program.specs.Triangles.{triangle_count}
use Rattle.parity_program.specs.declared.command.Command.{Command}
use Rattle.parity_program.specs.declared.command.Command.TheVariants.{OfText, OfNumber}
use Rattle.parity_program.specs.declared.command.Convertible.TheVariants.{Matching, Cactus, PathFamily, Rotation}
use Rattle.parity_program.specs.declared.command.GraphCommand.{GraphCommand}
use Rattle.parity_program.specs.declared.command.GraphCommand.TheVariants.{Find, Convert}
use Rattle.parity_program.specs.declared.command.GraphObject.{GraphObject}
use Rattle.parity_program.specs.declared.command.GraphObject.TheVariants.{Converted, ForestPairs, SparePairs, EdgePaths, FeedbackSet}
use Rattle.parity_program.specs.declared.command.NumberCommand.{NumberCommand}
use Rattle.parity_program.specs.declared.command.NumberCommand.TheVariants.{Generate, Sample}
use Rattle.parity_program.specs.declared.command.ProblemCommand.{ProblemCommand}
use Rattle.parity_program.specs.declared.command.ProblemCommand.TheVariants.{Check, Improve, Solve}
use Rattle.parity_program.specs.declared.command.TextCommand.{TextCommand}
use Rattle.parity_program.specs.declared.command.TextCommand.TheVariants.{OverProblem, OverGraph}
use Rattle.parity_program.specs.declared.status.Status.{Status}
use Rattle.parity_program.specs.declared.status.Status.TheVariants.{BadText, Limit, NotConnected, NotCubic, OutOfMemory}
use Rattle.parity_text.specs.Files.{problem_with}
use Rattle.parity_text.specs.Texts.{answer, choice}
use Rattle.parity_text.specs.Values.{AnswerValue}
use Rattle.text_forms.specs.Forms.{Form, of_text}
use Rattle.text_forms.specs.Reading.{Reads, ◌>>=◌, give, above}

-- the order of a field, a problem over it, and an answer, a set of lines or nothing more; a graph; or the number of a problem,
-- which is to be written or of which the size is asked
pub data Input : Type 0 where
  answered : ℕ → ParityProblem → AnswerValue → Input
  chosen : ℕ → ParityProblem → List ℕ → Input
  posed : ℕ → ParityProblem → Input
  of_graph : GraphCommand → NamedGraph → Input
  generated : ℕ → Input
  sampled : ℕ → Input

-- what a command over a problem reads behind it
abbrev pub behind : ProblemCommand → ℕ → ParityProblem → Form Input
behind Check q p = do
  a ← answer q p.dimension (length p.lines)
  give (answered q p a)
behind Improve q p = do
  set ← choice (length p.lines)
  give (chosen q p set)
behind Solve q p = give (posed q p)

-- how many vertices a graph may have in which the object is looked for, how many triangles, how many pairs of edges with a common end,
-- which cycle rank, and how many edges where edge-disjoint paths are looked for
abbrev pub most_vertices : GraphObject → ℕ
most_vertices (Converted Matching) = 128
most_vertices (Converted Cactus) = 128
most_vertices (Converted PathFamily) = 64
most_vertices (Converted Rotation) = 128
most_vertices ForestPairs = 128
most_vertices SparePairs = 128
most_vertices EdgePaths = 128
most_vertices FeedbackSet = 128

abbrev pub most_triangles : ℕ
most_triangles = 2048

abbrev pub most_pairs : ℕ
most_pairs = 2048

abbrev pub most_cycle_rank : ℕ
most_cycle_rank = 128

abbrev pub most_edges : ℕ
most_edges = 32

-- the graph, if it has no more triangles than it may
abbrev pub with_few_triangles : {T : Type 0} → NamedGraph → Reads T NamedGraph
with_few_triangles g =
    let count : ℕ = triangle_count (length g.names) g.ends in
    if nat_lt most_triangles count then above Triangles count else give g

-- the graph, if it has no more pairs of edges with a common end than it may
abbrev pub with_few_pairs : {T : Type 0} → NamedGraph → Reads T NamedGraph
with_few_pairs g = if nat_lt most_pairs (pair_count g.ends) then above Pairs (pair_count g.ends) else give g

-- the graph, if it has no greater cycle rank than it may
abbrev pub with_small_rank : {T : Type 0} → NamedGraph → Reads T NamedGraph
with_small_rank g =
    let rank : ℕ = cycle_rank (length g.names) g.ends in
    if nat_lt most_cycle_rank rank then above CycleRank rank else give g

-- both
abbrev pub with_few_cycles : {T : Type 0} → NamedGraph → Reads T NamedGraph
with_few_cycles g = do
  h ← with_few_pairs g
  with_small_rank h

-- the graph, if it has no more edges than it may
abbrev pub with_few_edges : {T : Type 0} → NamedGraph → Reads T NamedGraph
with_few_edges g = if nat_lt most_edges (length g.ends) then above Edges (length g.ends) else give g

-- a graph in which the object is looked for, within the limits
abbrev pub graph_for : GraphObject → Form NamedGraph
graph_for (Converted Matching) = graph (most_vertices (Converted Matching))
graph_for (Converted Cactus) = do
  g ← graph (most_vertices (Converted Cactus))
  with_few_triangles g
graph_for (Converted PathFamily) = graph (most_vertices (Converted PathFamily))
graph_for (Converted Rotation) = do
  g ← graph (most_vertices (Converted Rotation))
  with_few_cycles g
graph_for ForestPairs = graph (most_vertices ForestPairs)
graph_for SparePairs = do
  g ← graph (most_vertices SparePairs)
  with_small_rank g
graph_for EdgePaths = do
  g ← graph (most_vertices EdgePaths)
  with_few_edges g
graph_for FeedbackSet = graph (most_vertices FeedbackSet)

-- what a command over a graph is about
abbrev pub object_of : GraphCommand → GraphObject
object_of (Find object) = object
object_of (Convert object) = Converted object

-- what a command of a number is about
abbrev pub numbered : NumberCommand → ℕ → Input
numbered Generate n = generated n
numbered Sample n = sampled n

-- the form of what a command reads
abbrev pub text_form : TextCommand → Form Input
text_form (OverProblem command) = problem_with (behind command)
text_form (OverGraph command) = do
  g ← graph_for (object_of command)
  give (of_graph command g)

abbrev pub input_form : Command → Form Input
input_form (OfText command) = text_form command
input_form (OfNumber command n) = give (numbered command n)

-- What a command is told of the bytes that the source has left: all, or the empty text where it reads nothing.
abbrev pub told_to : Command → Option (List ℕ) → Option (List ℕ)
told_to command left = if reads_source command then left else Some []

-- the status of a text's refusal
abbrev pub status_of : TextRefusal → Status
status_of (refusal.Bad line kind) = BadText line kind
status_of (refusal.Limit what found) = Limit what found
status_of refusal.OutOfMemory = OutOfMemory

-- the input, but for a vertex that isn't connected with the first: vertices count from 1 in a status
abbrev pub unless_apart : Option ℕ → Input → Result Input Status
unless_apart None x = Ok x
unless_apart (Some v) x = Err (NotConnected (v + 1))

-- and but for a vertex at which the graph isn't cubic and simple
abbrev pub unless_not_cubic : Option ℕ → Input → Result Input Status
unless_not_cubic None x = Ok x
unless_not_cubic (Some v) x = Err (NotCubic (v + 1))

-- what a further check says of an input that was let pass
abbrev pub then_check : (Input → Result Input Status) → Result Input Status → Result Input Status
then_check check (Ok x) = check x
then_check check (Err status) = Err status

-- a rotation, spare pairs and a feedback set are looked for in connected graphs alone, and the last in cubic simple ones
abbrev pub unless_unfit : GraphObject → NamedGraph → Input → Result Input Status
unless_unfit (Converted Matching) g x = Ok x
unless_unfit (Converted Cactus) g x = Ok x
unless_unfit (Converted PathFamily) g x = Ok x
unless_unfit (Converted Rotation) g x = unless_apart (first_apart (length g.names) g.ends) x
unless_unfit ForestPairs g x = Ok x
unless_unfit SparePairs g x = unless_apart (first_apart (length g.names) g.ends) x
unless_unfit EdgePaths g x = Ok x
unless_unfit FeedbackSet g x =
    then_check (unless_not_cubic (first_not_cubic (length g.names) g.ends)) (unless_apart (first_apart (length g.names) g.ends) x)

-- what was read, if its graph is fit for what is looked for in it
abbrev pub admitted : Input → Result Input Status
admitted (answered q p a) = Ok (answered q p a)
admitted (chosen q p set) = Ok (chosen q p set)
admitted (posed q p) = Ok (posed q p)
admitted (of_graph command g) = unless_unfit (object_of command) g (of_graph command g)
admitted (generated n) = Ok (generated n)
admitted (sampled n) = Ok (sampled n)

-- the input that a form gives, or the status of its refusal
abbrev pub accepted : Result (Input × List Line) TextRefusal → Result Input Status
accepted (Ok x) = admitted x.0
accepted (Err e) = Err (status_of e)

-- what the lines of the bytes mean to a command
abbrev pub input_of : Command → List ℕ → Result Input Status
input_of command bytes = accepted (of_text (input_form command) bytes)

-- What the bytes mean to a command: an input, or the status that refuses them.
unfoldable pub reading : Command → List ℕ → Result Input Status
reading command bytes = if nat_lt most_bytes (length bytes) then Err (Limit Bytes (most_bytes + 1)) else input_of command bytes
