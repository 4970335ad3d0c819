use Rattle.std.proofs.Common.{◌≡◌, ◌<◌, length, All}
use Rattle.search.proofs.repeats.first_lines.Given as goal

abbrev pub invariant-loop-line : goal.invariant-loop-line
invariant-loop-line g l = record {
  known : All (λ m. m < length l.problem.lines) l.known.items;
  one_each : length l.firsts.items ≡ l.line;
  within : All (λ m. m < length l.problem.lines) l.firsts.items;
}
