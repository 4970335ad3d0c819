use Rattle.std.proofs.Common.{◌≡◌, ◌*◌}
use Rattle.generator.proofs.generated.problem.Given as goal
use Rattle.generator.specs.GeneratedProblems.{HasGeneratedLines}
use Rattle.generator.specs.Sequence.{state_after}

abbrev pub invariant-loop-line : goal.invariant-loop-line
invariant-loop-line l = record {
  state : l.generator ≡ state_after l.n (2 * l.line);
  dimension : l.problem.dimension ≡ 60;
  lines : HasGeneratedLines l.n l.line l.problem.lines;
}
