use Rattle.std.proofs.Common.{refl, sym, ◌∙◌, ◌+◌, arith, length}
use Rattle.line_lexer.proofs.Places.{lines_from_end}
use Rattle.line_lexer.proofs.WordPlaces.{word_places_nil}
use Rattle.line_lexer.proofs.Words.{words_nil}
use Rattle.line_lexer.proofs.lexer.Lexer.next_line.Goals as goal

pub returns-in-End-clause-next : goal.returns-in-End-clause-next
returns-in-End-clause-next c =
    let bytes = c.self.inside.bytes.now in
    let none = c.in-End.ensures.0 in
    rw (← c.self.view_is) (none, record { ahead = lines_from_end (c.in-End.passed + 1) (length bytes) bytes (omega arith) ∙ sym none; line = refl; words = words_nil; places = word_places_nil 0 })
