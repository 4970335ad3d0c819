-- The one spelling of the reply of a list of pairs, as lines of words.
use Rattle.std.specs.Prelude.{ℕ, ◌+◌, List, [], ◌∷◌, ◌++◌, length, map, codes}
use Rattle.std.specs.Fmt.{decimal}
use Rattle.pairs_theory.specs.PairsOfEdges.{edge_pair}
use Rattle.text_forms.specs.Spelling.{counted_words, end_line}

-- a pair by its number and those of its two edges, which all count from 1
abbrev pub pair_words : ℕ → List (List ℕ)
pair_words i = codes "pair" ∷ decimal (i + 1) ∷ decimal ((edge_pair i).0 + 1) ∷ decimal ((edge_pair i).1 + 1) ∷ []

abbrev pub pairs_lines : List ℕ → List (List (List ℕ))
pairs_lines set = counted_words (codes "pairs") 1 ∷ counted_words (codes "size") (length set) ∷ map pair_words set ++ end_line
