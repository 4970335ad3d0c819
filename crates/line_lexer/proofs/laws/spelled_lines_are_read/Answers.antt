use Rattle.line_lexer.proofs.Spelled.{lines_from-spelled, length-lines-spelled}
use Rattle.line_lexer.proofs.laws.spelled_lines_are_read.Goals as goal

pub returns-clause-lines : goal.returns-clause-lines
returns-clause-lines c = lines_from-spelled

pub returns-clause-count : goal.returns-clause-count
returns-clause-count c = length-lines-spelled
