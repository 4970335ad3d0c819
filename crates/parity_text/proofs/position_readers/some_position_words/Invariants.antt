use Rattle.std.proofs.Common.{◌≡◌, ◌-◌, ◌<◌, All, length}
use Rattle.line_lexer.specs.Calls.{SameLine}
use Rattle.text_forms.specs.Places.{positions_above, some_positions}
use Rattle.text_forms.proofs.Loops.{with_front}
use Rattle.parity_text.proofs.position_readers.some_position_words.Given as goal

abbrev pub invariant-loop-set : goal.invariant-loop-set
invariant-loop-set l = record {
  same : SameLine l.fn.lexer l.lexer;
  below : All (λ m. m < l.before) l.set;
  some : 0 < length l.set;
  rest : with_front l.set (positions_above (length l.lexer.words) l.lines l.before l.lexer.line l.lexer.words)
      ≡ some_positions l.lines l.fn.lexer.line l.fn.lexer.words;
}

abbrev pub decreases-loop-set : goal.decreases-loop-set
decreases-loop-set l = l.lines - l.before
