-- Which lines a reader of one line takes.
use Rattle.std.specs.Prelude.{ℕ, List, [], ◌∷◌, Option, None, Some}
use Rattle.line_lexer.specs.Lines.{Line}

-- a line with words is taken, and one with a bad byte stays
abbrev pub without_words : Option (List (List ℕ)) → Line → List Line → List Line
without_words None l more = l ∷ more
without_words (Some ws) l more = more

-- the lines that are ahead after one was due, whatever its words say
abbrev pub after_line : List Line → List Line
after_line [] = []
after_line (l ∷ more) = without_words l.words l more
