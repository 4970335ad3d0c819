use Rattle.std.proofs.Common.{◌≡◌, ◌-◌, ◌<◌, All}
use Rattle.line_lexer.specs.Calls.{SameLine}
use Rattle.text_forms.specs.Places.{positions, positions_above}
use Rattle.text_forms.proofs.Loops.{with_front}
use Rattle.parity_text.proofs.position_readers.position_words.Given as goal

abbrev pub invariant-loop-i : goal.invariant-loop-i
invariant-loop-i l = record {
  same : SameLine l.initial.lexer l.lexer;
  below : All (λ m. m < l.before) l.set;
  rest : with_front l.set (positions_above (l.count - l.i) l.lines l.before l.lexer.line l.lexer.words)
      ≡ positions l.count l.lines l.initial.lexer.line l.initial.lexer.words;
}
