use Rattle.std.proofs.Common.{◌≡◌, length}
use Rattle.line_lexer.specs.Calls.{SameLine}
use Rattle.graph_text.specs.Texts.{each, free_vertex}
use Rattle.graph_text.proofs.names.other_vertices.Given as goal

abbrev pub invariant-loop-token : goal.invariant-loop-token
invariant-loop-token l = record {
  same : SameLine l.initial.lexer l.lexer;
  rest : each (free_vertex l.most) l.graph l.initial.lexer.line l.lexer.words ≡ each (free_vertex l.most) l.initial.graph l.initial.lexer.line l.initial.lexer.words;
}

abbrev pub decreases-loop-token : goal.decreases-loop-token
decreases-loop-token l = length l.lexer.words
