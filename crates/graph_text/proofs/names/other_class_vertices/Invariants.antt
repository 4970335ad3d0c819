use Rattle.std.proofs.Common.{◌≡◌, length}
use Rattle.line_lexer.specs.Calls.{SameLine}
use Rattle.graph_text.specs.Texts.{each, class_vertex}
use Rattle.graph_text.proofs.names.other_class_vertices.Given as goal

abbrev pub invariant-loop-token : goal.invariant-loop-token
invariant-loop-token l = record {
  same : SameLine l.initial.lexer l.lexer;
  rest : each (class_vertex l.most l.class) l.graph l.initial.lexer.line l.lexer.words ≡ each (class_vertex l.most l.class) l.initial.graph l.initial.lexer.line l.initial.lexer.words;
}

abbrev pub decreases-loop-token : goal.decreases-loop-token
decreases-loop-token l = length l.lexer.words
