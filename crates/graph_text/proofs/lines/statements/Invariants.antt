use Rattle.std.proofs.Common.{◌≡◌, length}
use Rattle.line_lexer.specs.Lines.{lines}
use Rattle.graph_text.specs.Texts.{statements, nothing}
use Rattle.graph_text.proofs.lines.statements.Given as goal

abbrev pub invariant-loop-more : goal.invariant-loop-more
invariant-loop-more l = record {
  bytes : l.lexer.bytes ≡ l.initial.lexer.bytes;
  rest : statements l.most (record { graph = l.graph; classes = l.classes }) (length (lines l.initial.lexer.bytes)) l.lexer.ahead ≡ statements l.most nothing (length (lines l.initial.lexer.bytes)) l.initial.lexer.ahead;
}

abbrev pub decreases-loop-more : goal.decreases-loop-more
decreases-loop-more l = length l.lexer.ahead
