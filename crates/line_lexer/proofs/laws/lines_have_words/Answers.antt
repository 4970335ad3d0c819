use Rattle.line_lexer.proofs.WordsOfLines.{lines_from-words, lines_from-range}
use Rattle.line_lexer.proofs.laws.lines_have_words.Goals as goal

pub returns-clause-words : goal.returns-clause-words
returns-clause-words c = lines_from-words

pub returns-clause-numbers : goal.returns-clause-numbers
returns-clause-numbers c = lines_from-range
