-- The commands, by their words.
use Rattle.std.specs.Prelude.{◌≡◌, ◌≢◌, ℕ, ◌^◌, ◌<◌, List, [], ◌∷◌, map, codes, Bool, true, false, Option, None, Some, String, string_bytes}
use Rattle.std.specs.Fmt.{decimal}
use Rattle.parity_program.specs.declared.command.Command.{Command}
use Rattle.parity_program.specs.declared.command.Command.TheVariants.{OfText, OfNumber}
use Rattle.parity_program.specs.declared.command.Convertible.{Convertible}
use Rattle.parity_program.specs.declared.command.Convertible.TheVariants.{Matching, Cactus, PathFamily, Rotation}
use Rattle.parity_program.specs.declared.command.GraphCommand.{GraphCommand}
use Rattle.parity_program.specs.declared.command.GraphCommand.TheVariants.{Find, Convert}
use Rattle.parity_program.specs.declared.command.GraphObject.{GraphObject}
use Rattle.parity_program.specs.declared.command.GraphObject.TheVariants.{Converted, ForestPairs, SparePairs, EdgePaths, FeedbackSet}
use Rattle.parity_program.specs.declared.command.NumberCommand.{NumberCommand}
use Rattle.parity_program.specs.declared.command.NumberCommand.TheVariants.{Generate, Sample}
use Rattle.parity_program.specs.declared.command.ProblemCommand.{ProblemCommand}
use Rattle.parity_program.specs.declared.command.ProblemCommand.TheVariants.{Check, Improve, Solve}
use Rattle.parity_program.specs.declared.command.TextCommand.{TextCommand}
use Rattle.parity_program.specs.declared.command.TextCommand.TheVariants.{OverProblem, OverGraph}

-- the words, by their bytes
abbrev pub words_of : {Z : Type 0} → List (String Z) → List (List ℕ)
words_of words = map string_bytes words

-- the word of a command over a problem
abbrev pub problem_word : ProblemCommand → List ℕ
problem_word Check = codes "check"
problem_word Improve = codes "improve"
problem_word Solve = codes "solve"

-- the word of what is looked for in a graph by a problem that can be written
abbrev pub convertible_word : Convertible → List ℕ
convertible_word Matching = codes "matching"
convertible_word Cactus = codes "cactus"
convertible_word PathFamily = codes "spaths"
convertible_word Rotation = codes "genus"

-- the word of what is looked for in a graph
abbrev pub object_word : GraphObject → List ℕ
object_word (Converted object) = convertible_word object
object_word ForestPairs = codes "forestpairs"
object_word SparePairs = codes "sparepairs"
object_word EdgePaths = codes "epaths"
object_word FeedbackSet = codes "feedback"

-- the words of a command over a graph: the object's word, or `convert` before it
abbrev pub graph_words : GraphCommand → List (List ℕ)
graph_words (Find object) = object_word object ∷ []
graph_words (Convert object) = codes "convert" ∷ convertible_word object ∷ []

-- the words of a command that reads a text
abbrev pub text_words : TextCommand → List (List ℕ)
text_words (OverProblem command) = problem_word command ∷ []
text_words (OverGraph command) = graph_words command

-- the word of a command of a number
abbrev pub number_word : NumberCommand → List ℕ
number_word Generate = codes "generate"
number_word Sample = codes "sample"

-- the words of a command; a number is a plain decimal
abbrev pub words_for : Command → List (List ℕ)
words_for (OfText command) = text_words command
words_for (OfNumber command n) = number_word command ∷ decimal n ∷ []

-- a command's number is below 2^32
abbrev pub HasSmallNumber : Command → Type 0
HasSmallNumber (OfText command) = Unit {0}
HasSmallNumber (OfNumber command n) = n < 2 ^ 32

-- the words are those of the command; without a command, they are those of none
abbrev pub Named : List (List ℕ) → Option Command → Type 0
Named words (Some command) = (words ≡ words_for command) × HasSmallNumber command
Named words None = (command : Command) → HasSmallNumber command → words ≢ words_for command

-- whether a command reads the source
abbrev pub reads_source : Command → Bool
reads_source (OfText command) = true
reads_source (OfNumber command n) = false
