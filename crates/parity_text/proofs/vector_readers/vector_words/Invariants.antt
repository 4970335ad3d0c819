use Rattle.std.proofs.Common.{◌≡◌, ◌-◌, length, map}
use Rattle.line_lexer.specs.Calls.{SameLine}
use Rattle.text_forms.specs.Places.{times, entry}
use Rattle.text_forms.proofs.Loops.{with_front}
use Rattle.parity_text.proofs.vector_readers.vector_words.Given as goal

abbrev pub invariant-loop-i : goal.invariant-loop-i
invariant-loop-i g l =
    let at = l.initial.lexer.line in
    let element = entry g.F.Field.scalars.order in
    record {
      same : SameLine l.initial.lexer l.lexer;
      long : length l.entries.items ≡ l.i;
      rest : with_front (map g.F.Field.number l.entries.items) (times (l.count - l.i) element at l.lexer.words)
          ≡ times l.count element at l.initial.lexer.words;
    }
