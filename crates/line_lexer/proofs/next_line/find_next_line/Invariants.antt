use Rattle.std.proofs.Common.{◌≡◌, ◌+◌, ◌-◌, length, drop}
use Rattle.line_lexer.specs.Lines.{lines_from}
use Rattle.line_lexer.specs.Seen.{IsPlace}
use Rattle.line_lexer.proofs.next_line.find_next_line.Given as goal

abbrev pub invariant-loop-at : goal.invariant-loop-at
invariant-loop-at l = record {
  place : IsPlace l.bytes l.at l.passed;
  ahead : lines_from (l.initial.passed + 1) (drop l.initial.at l.bytes) ≡ lines_from (l.passed + 1) (drop l.at l.bytes);
}

abbrev pub decreases-loop-at : goal.decreases-loop-at
decreases-loop-at l = length l.bytes - l.at
