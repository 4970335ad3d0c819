-- Words of the contracts of private functions alone: how replies of the code are seen, and what they say of what is read.
use Rattle.std.specs.Prelude.{◌≡◌, ◌≢◌, ℕ, ◌+◌, ◌^◌, ◌<◌, ◌≤◌, ◌⊎◌, List, length, Option, None, Some, Result, Ok, Err, slice_index_or}
use Rattle.std.specs.Io.KnownBytes.{Appends}
use Rattle.cubic_front.specs.CubicGraphs.{IsCubic}
use Rattle.edge_lists.specs.Connections.{IsConnected}
use Rattle.edge_lists.specs.EdgeNumbers.{edge_numbers}
use Rattle.graph_core.specs.NamedGraphs.{NamedGraph}
use Rattle.graph_theory.specs.Walks.{edge_at}
use Rattle.line_lexer.specs.Lines.{lines}
use Rattle.line_lexer.specs.Seen.{Seen, most_bytes}
use Rattle.line_lexer.specs.declared.refusal.Counted.TheVariants.{Bytes}
use Rattle.parity_program.specs.Inputs.{Input, accepted}
use Rattle.parity_program.specs.Outcome.{Replies, Refuses, HasReadCause, HasByteCause}
use Rattle.parity_program.specs.Replies.{ReplyText, IsReply}
use Rattle.parity_program.specs.declared.command.Command.{Command}
use Rattle.parity_program.specs.declared.command.Convertible.TheVariants.{Matching, Cactus, PathFamily, Rotation}
use Rattle.parity_program.specs.declared.command.GraphObject.{GraphObject}
use Rattle.parity_program.specs.declared.command.GraphObject.TheVariants.{Converted, ForestPairs, SparePairs, EdgePaths, FeedbackSet}
use Rattle.parity_program.specs.declared.reply.Reply.{Reply}
use Rattle.parity_program.specs.declared.status.Status.{Status}
use Rattle.parity_program.specs.declared.status.Status.TheVariants.{Limit, ReadFault, WriteFault, OutOfMemory}
use Rattle.text_forms.specs.Forms.{Form, whole_text}
use Rattle.text_io.specs.Counts.{Rose}
use Rattle.text_io.specs.Told.{AppendsProperPrefix}
use Rattle.text_io.specs.declared.reading.ReadAnswer.{ReadAnswer}
use Rattle.text_io.specs.declared.reading.ReadAnswer.TheVariants as read

-- the text, and the status that it ends with
abbrev pub shown : Reply → ReplyText
shown reply = record { text = reply.text.items; status = reply.status }

-- what is left of a text means by a form, if nothing comes behind it
abbrev pub meant_by : Form Input → Seen → Result Input Status
meant_by form lexer = accepted (whole_text form (length (lines lexer.bytes)) lexer.ahead)

-- the reply to what was meant, or the status that refuses it, unless memory ran out
abbrev pub RepliesTo : Result Input Status → Result Reply Status → Type 0
RepliesTo meant (Ok reply) = (x : Input) × (meant ≡ Ok x) × IsReply x (shown reply)
RepliesTo meant (Err status) = (status ≡ OutOfMemory) ⊎ (meant ≡ Err status)

-- it isn't the limit on all bytes
abbrev pub IsNoByteLimit : Status → Type 0
IsNoByteLimit (Limit what found) = what ≢ Bytes
IsNoByteLimit status = Unit {0}

-- the status where the source's bytes can't be had
abbrev pub status_of_read : ReadAnswer → Status
status_of_read read.Fault = ReadFault
status_of_read read.TooLong = Limit Bytes (most_bytes + 1)
status_of_read read.OutOfMemory = OutOfMemory

-- by the bytes that were left, a reply or the status in place of one
abbrev pub RepliesOrRefuses : Command → Option (List ℕ) → Result Reply Status → Type 0
RepliesOrRefuses command left (Ok reply) = Replies command left (shown reply)
RepliesOrRefuses command left (Err status) = Refuses command left status

-- after a reply, no read failed, and no more bytes were given than an input may have; a status in its place has its causes
abbrev pub ReadsWithCause : ℕ → ℕ → Result Reply Status → Type 0
ReadsWithCause before now (Ok reply) = now ≡ before
ReadsWithCause before now (Err status) = HasReadCause before now status

abbrev pub GivesWithCause : ℕ → ℕ → Result Reply Status → Type 0
GivesWithCause before now (Ok reply) = now ≤ before + most_bytes
GivesWithCause before now (Err status) = HasByteCause before now status

-- by the sink's bytes and faults, before and after: the reply was written, with its status, or a write failed
abbrev pub IsWritten : Option (List ℕ) → Option (List ℕ) → ℕ → ℕ → ReplyText → Status → Type 0
IsWritten old new before now reply status =
    ((status ≡ reply.status) × Appends old new reply.text × (now ≡ before))
    ⊎ ((status ≡ WriteFault) × AppendsProperPrefix old new reply.text × Rose before now)

-- class numbers are numbers of elements of the field with 251
abbrev pub HasFewClasses : NamedGraph → Type 0
HasFewClasses g = (v c : ℕ) → slice_index_or g.classes v None ≡ Some c → c < 251

-- the edges connect all vertices, and are fewer than darts can be numbered
pub record IsConnectedGraph (g : NamedGraph) : Type 0 where
  pub connected : IsConnected (edge_at g.ends) (length g.names) (edge_numbers g.ends)
  pub few : length g.ends < 2 ^ 31

-- the same, and it is cubic and simple
pub record IsConnectedCubicGraph (g : NamedGraph) : Type 0 where
  pub connected : IsConnectedGraph g
  pub cubic : IsCubic (length g.names) g.ends

-- there are few edges, and class numbers are numbers of elements of the field with 251
pub record HasFewEdges (g : NamedGraph) : Type 0 where
  pub few : length g.ends ≤ 32
  pub classes : HasFewClasses g

-- what a graph has in which the object is looked for
abbrev pub Suits : GraphObject → NamedGraph → Type 0
Suits (Converted Matching) g = Unit {0}
Suits (Converted Cactus) g = Unit {0}
Suits (Converted PathFamily) g = HasFewClasses g
Suits (Converted Rotation) g = IsConnectedGraph g
Suits ForestPairs g = Unit {0}
Suits SparePairs g = IsConnectedGraph g
Suits EdgePaths g = HasFewEdges g
Suits FeedbackSet g = IsConnectedCubicGraph g

-- a check lets an input pass, or refuses it with the status, unless memory ran out
abbrev pub Admits : {Y : Type 0} → (Input → Result Input Status) → Result Y Status → Type 0
Admits check (Ok y) = (x : Input) → check x ≡ Ok x
Admits check (Err status) = (status ≡ OutOfMemory) ⊎ ((x : Input) → check x ≡ Err status)
