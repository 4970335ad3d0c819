-- The next line that isn't passed over.
use Rattle.std.specs.Prelude.{◌≡◌, ℕ, ◌+◌, ◌≤◌, ◌<◌, List, [], ◌∷◌, length, drop, None, Some}
use Rattle.std.specs.List.{slice_range}
use Rattle.line_lexer.specs.Lines.{Line, lines_from, words}
use Rattle.line_lexer.specs.Seen.{IsPlace}
use Rattle.line_lexer.specs.WordPlaces.{word_places, places_on}
use Rattle.line_lexer.specs.declared.next_line.NextLine.{NextLine}
use Rattle.line_lexer.specs.declared.next_line.NextLine.TheVariants.{End, Bad, Words}

-- Of the lines ahead this is the first, and the others begin at the place; a bad line begins there itself.
abbrev pub FindsLine : List ℕ → List Line → NextLine → Type 0
FindsLine bytes ahead (End passed) = (ahead ≡ []) × IsPlace bytes (length bytes) passed
FindsLine bytes ahead (Bad at passed) = ((more : List Line) × (ahead ≡ record { number = passed + 1; words = None } ∷ more))
    × (ahead ≡ lines_from (passed + 1) (drop at bytes)) × IsPlace bytes at passed × (passed < length bytes)
FindsLine bytes ahead (Words at passed word end) = (ahead ≡ record { number = passed; words = Some (words (slice_range bytes word end)) } ∷ lines_from (passed + 1) (drop at bytes))
    × (word_places word (slice_range bytes word end) ≡ places_on bytes passed) × IsPlace bytes at passed × (word ≤ end) × (end ≤ length bytes)
