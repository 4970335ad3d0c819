use Rattle.std.proofs.Common.{◌≡◌, ◌-◌, length}
use Rattle.line_lexer.specs.Lines.{lines}
use Rattle.parity_text.specs.Texts.{pair}
use Rattle.text_forms.specs.Forms.{line}
use Rattle.text_forms.specs.Places.{times}
use Rattle.text_forms.proofs.Loops.{with_front}
use Rattle.parity_text.proofs.line_readers.pair_lines.Given as goal

abbrev pub invariant-loop-i : goal.invariant-loop-i
invariant-loop-i g l =
    let last = length (lines l.initial.lexer.bytes) in
    let form = line (pair g.F.Field.scalars.order l.dimension) in
    record {
      bytes : l.lexer.bytes ≡ l.initial.lexer.bytes;
      dimension : l.problem.dimension ≡ l.dimension;
      rest : with_front l.problem.lines (times (l.count - l.i) form last l.lexer.ahead) ≡ times l.count form last l.initial.lexer.ahead;
    }
