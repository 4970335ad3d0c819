-- The definitions at small texts, as a person reads them.
use Rattle.std.proofs.Common.{◌≡◌, ℕ, List, [], ◌∷◌, ◌++◌, length, refl, None, Some}
use Rattle.std.specs.Prelude.{codes}
use Rattle.line_lexer.specs.Lines.{Line, lines, content, words, lines_from}
use Rattle.line_lexer.specs.Numbers.{number_of}
use Rattle.line_lexer.specs.WordPlaces.{word_places, line_start, places_on}

abbrev good : ℕ → List (List ℕ) → Line
good n ws = record { number = n; words = Some ws }

abbrev bad : ℕ → Line
bad n = record { number = n; words = None }

-- comments, an empty line, spaces at both ends, and a last line without a newline
comments : lines_from 1 (codes "a  b#c d\n\n d # e\n#f\n g ") ≡ good 1 (codes "a" ∷ codes "b" ∷ []) ∷ good 3 (codes "d" ∷ []) ∷ good 5 (codes "g" ∷ []) ∷ []
unfolding lines_from lines content words
comments = refl

-- a hash ends a word
hash_ends_word : lines_from 1 (codes "ab#cd") ≡ good 1 (codes "ab" ∷ []) ∷ []
unfolding lines_from lines content words
hash_ends_word = refl

-- tabs separate words
tabs : lines_from 1 (codes "\ta\t\tb \n\t\n") ≡ good 1 (codes "a" ∷ codes "b" ∷ []) ∷ []
unfolding lines_from lines content words
tabs = refl

-- a carriage return before a newline and at the end of the input belongs to the line's end
returns : lines_from 1 (codes "x\r\n\r\ny\r") ≡ good 1 (codes "x" ∷ []) ∷ good 3 (codes "y" ∷ []) ∷ []
unfolding lines_from lines content words
returns = refl

-- a rest that is a lone carriage return is a line without words
lone_return : lines_from 1 (codes "\r") ≡ []
unfolding lines_from lines content words
lone_return = refl

lone_return_counts : length (lines (codes "a\n\r")) ≡ 2
unfolding lines
lone_return_counts = refl

-- of two carriage returns before a newline the first is a bad byte, and so is one inside a line
two_returns : lines_from 1 (codes "x\r\r\na\rb\n") ≡ bad 1 ∷ bad 2 ∷ []
unfolding lines_from lines content words
two_returns = refl

-- in a comment no byte but the newline matters, nor does a carriage return at its end
in_comment : lines_from 1 (codes "x#" ++ 200 ∷ 0 ∷ 13 ∷ 13 ∷ 10 ∷ codes "#y\r\nz#\r\n") ≡ good 1 (codes "x" ∷ []) ∷ good 3 (codes "z" ∷ []) ∷ []
unfolding lines_from lines content words
in_comment = refl

-- outside it a byte below 0x20, or one above 0x7E, is bad
outside_comment : lines_from 1 (127 ∷ 10 ∷ 11 ∷ 10 ∷ 200 ∷ 35 ∷ 10 ∷ 126 ∷ 33 ∷ []) ≡ bad 1 ∷ bad 2 ∷ bad 3 ∷ good 4 ((126 ∷ 33 ∷ []) ∷ []) ∷ []
unfolding lines_from lines content words
outside_comment = refl

-- an empty rest after the last newline is no line
empty_rest : length (lines (codes "a\n\n")) ≡ 2
unfolding lines
empty_rest = refl

no_lines : length (lines []) ≡ 0
unfolding lines
no_lines = refl

zeros : number_of (codes "007") ≡ Some 7
unfolding number_of
zeros = refl

nine_digits : number_of (codes "999999999") ≡ Some 999999999
unfolding number_of
nine_digits = refl

ten_digits : number_of (codes "0000000001") ≡ None
unfolding number_of
ten_digits = refl

signed : number_of (codes "+1") ≡ None
unfolding number_of
signed = refl

-- the words of the third line, where they stand in the whole text
places : places_on (codes "ab#c\n\n d  ef") 3 ≡ (7, 8) ∷ (10, 12) ∷ []
unfolding places_on line_start word_places content
places = refl
