-- The code and the line of each status.
use Rattle.std.specs.Prelude.{ℕ, List, [], ◌∷◌, ◌++◌, codes}
use Rattle.std.specs.Fmt.{decimal}
use Rattle.line_lexer.specs.declared.fault.TextFault.{TextFault}
use Rattle.line_lexer.specs.declared.fault.TextFault.TheVariants as fault
use Rattle.line_lexer.specs.declared.refusal.Counted.{Counted}
use Rattle.line_lexer.specs.declared.refusal.Counted.TheVariants as counted
use Rattle.parity_program.specs.declared.status.Status.{Status}
use Rattle.parity_program.specs.declared.status.Status.TheVariants.{Done, No, Usage, BadText, Limit, NotConnected, NotCubic}
use Rattle.parity_program.specs.declared.status.Status.TheVariants.{ReadFault, WriteFault, OutOfMemory}

abbrev pub code_of : Status → ℕ
code_of Done = 0
code_of No = 1
code_of Usage = 2
code_of (BadText line kind) = 3
code_of (Limit what found) = 4
code_of (NotConnected vertex) = 4
code_of (NotCubic vertex) = 4
code_of ReadFault = 5
code_of WriteFault = 6
code_of OutOfMemory = 7

-- a fault by name
abbrev pub fault_name : TextFault → List ℕ
fault_name fault.Byte = codes "byte"
fault_name fault.Word = codes "word"
fault_name fault.Version = codes "version"
fault_name fault.Field = codes "field"
fault_name fault.Number = codes "number"
fault_name fault.Range = codes "range"
fault_name fault.Order = codes "order"
fault_name fault.Count = codes "count"
fault_name fault.Missing = codes "missing"
fault_name fault.Extra = codes "extra"
fault_name fault.Classed = codes "classed"

-- what is counted, by name
abbrev pub counted_name : Counted → List ℕ
counted_name counted.Bytes = codes "bytes"
counted_name counted.Dimension = codes "dimension"
counted_name counted.Lines = codes "lines"
counted_name counted.Kernel = codes "kernel"
counted_name counted.Parts = codes "parts"
counted_name counted.Vertices = codes "vertices"
counted_name counted.Edges = codes "edges"
counted_name counted.NameBytes = codes "name bytes"
counted_name counted.Triangles = codes "triangles"
counted_name counted.Pairs = codes "pairs"
counted_name counted.CycleRank = codes "cycle rank"

-- what the line says before its end
abbrev pub status_text : Status → List ℕ
status_text Done = codes "done"
status_text No = codes "no"
status_text Usage = codes "usage"
status_text (BadText line kind) = codes "bad text: line " ++ decimal line ++ codes ": " ++ fault_name kind
status_text (Limit what found) = codes "limit: " ++ counted_name what ++ codes " " ++ decimal found
status_text (NotConnected vertex) = codes "not connected: vertex " ++ decimal vertex
status_text (NotCubic vertex) = codes "not cubic: vertex " ++ decimal vertex
status_text ReadFault = codes "read fault"
status_text WriteFault = codes "write fault"
status_text OutOfMemory = codes "out of memory"

abbrev pub line_of : Status → List ℕ
line_of status = status_text status ++ 10 ∷ []
