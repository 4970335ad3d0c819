-- The forms of the texts: of a problem, of an answer to one, and of a choice of lines.
use Rattle.std.specs.Prelude.{ℕ, List, ◌==◌, if◌then◌else◌, codes}
use Rattle.std.specs.List.{list_any}
use Rattle.line_lexer.specs.declared.fault.TextFault.TheVariants.{Field}
use Rattle.line_lexer.specs.declared.refusal.Counted.TheVariants.{Dimension, Lines, Kernel, Parts}
use Rattle.parity_lines.specs.Problems.{ParityProblem}
use Rattle.parity_text.specs.Values.{AnswerValue, most_dimension, most_lines, most_kernel, most_parts}
use Rattle.small_fields.specs.FieldName.{field_orders}
use Rattle.text_forms.specs.Forms.{Form, line, version, counted, counted_within}
use Rattle.text_forms.specs.Places.{Place, fixed, number, entry, positions, some_positions, times}
use Rattle.text_forms.specs.Reading.{◌>>=◌, give, fault}

-- the order of one of the five fields
unfoldable pub order : Place ℕ
order = do
  n ← number
  if list_any (λ q. n == q) field_orders then give n else fault Field

-- `field q`
unfoldable pub field : Place ℕ
field = do
  _ ← fixed (codes "field")
  order

-- `parity 1`, `field q`: the order
unfoldable pub head : Form ℕ
head = do
  _ ← line (version (codes "parity"))
  line field

-- a vector of length d, by its entries
abbrev pub vector : ℕ → ℕ → Place (List ℕ)
vector q d = times d (entry q)

-- `line`, a vector, `|`, a vector
unfoldable pub pair : ℕ → ℕ → Place (List ℕ × List ℕ)
pair q d = do
  _ ← fixed (codes "line")
  u ← vector q d
  _ ← fixed (codes "|")
  v ← vector q d
  give (u, v)

-- over the field of order q: `dimension d`, `lines n`, and n lines
unfoldable pub problem : ℕ → Form ParityProblem
problem q = do
  d ← line (counted_within (codes "dimension") Dimension most_dimension)
  n ← line (counted_within (codes "lines") Lines most_lines)
  ls ← times n (line (pair q d))
  give (record { dimension = d; lines = ls })

-- `set` with so many positions, increasing
unfoldable pub listed_set : ℕ → ℕ → Place (List ℕ)
listed_set lines count = do
  _ ← fixed (codes "set")
  positions count lines

-- `size s`, `set` with s positions
unfoldable pub sized_set : ℕ → Form (List ℕ)
sized_set lines = do
  s ← line (counted (codes "size"))
  line (listed_set lines s)

-- `vector` and a vector
unfoldable pub kernel_vector : ℕ → ℕ → Place (List ℕ)
kernel_vector q d = do
  _ ← fixed (codes "vector")
  vector q d

-- `part` with one or more positions, increasing
unfoldable pub part : ℕ → Place (List ℕ)
part lines = do
  _ ← fixed (codes "part")
  some_positions lines

-- `answer 1`, the set, `kernel k`, k vectors, `parts m`, m parts, `end`
unfoldable pub answer : ℕ → ℕ → ℕ → Form AnswerValue
answer q d lines = do
  _ ← line (version (codes "answer"))
  set ← sized_set lines
  k ← line (counted_within (codes "kernel") Kernel most_kernel)
  vs ← times k (line (kernel_vector q d))
  m ← line (counted_within (codes "parts") Parts most_parts)
  ps ← times m (line (part lines))
  _ ← line (fixed (codes "end"))
  give (record { set = set; kernel = record { width = d; rows = vs }; parts = ps })

-- `choice 1`, the set, `end`
unfoldable pub choice : ℕ → Form (List ℕ)
choice lines = do
  _ ← line (version (codes "choice"))
  set ← sized_set lines
  _ ← line (fixed (codes "end"))
  give set
