use Rattle.std.proofs.Common.{◌≡◌, []}
use Rattle.classes.specs.Pacing.{KeepsCounts}
use Rattle.classes.proofs.PacedTies.{IsWalk}
use Rattle.parity_theory.proofs.Nearness.{left_over}
use Rattle.classes.proofs.pacing.reach.Given as goal

abbrev pub invariant-loop-keep : goal.invariant-loop-keep
invariant-loop-keep g l = record {
  problem : l.state.problem ≡ l.initial.state.problem;
  counts : KeepsCounts l.labels l.initial.state.set l.state.set;
  walk : IsWalk g.F.Field.scalars l.state.problem l.labels [] l.o l.target l.state.set;
}

abbrev pub decreases-loop-keep : goal.decreases-loop-keep
decreases-loop-keep g l = left_over l.state.set l.target
