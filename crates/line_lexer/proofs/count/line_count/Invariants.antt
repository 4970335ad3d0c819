use Rattle.std.proofs.Common.{◌≡◌, ◌≤◌, ◌+◌, ◌-◌, length, drop}
use Rattle.line_lexer.specs.Lines.{lines}
use Rattle.line_lexer.proofs.count.line_count.Given as goal

abbrev pub invariant-loop-at : goal.invariant-loop-at
invariant-loop-at l = record {
  within : l.at ≤ length l.text;
  short : l.count ≤ l.at;
  counted : l.count + length (lines (drop l.at l.text)) ≡ length (lines l.text);
}

abbrev pub decreases-loop-at : goal.decreases-loop-at
decreases-loop-at l = length l.text - l.at
