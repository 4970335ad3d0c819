use Rattle.std.proofs.Common.{◌≡◌}
use Rattle.parity_theory.proofs.Nearness.{left_over}
use Rattle.exchanges.specs.Exchanges.{IsReached, StillMisses}
use Rattle.exchanges.proofs.walk.move_toward.Given as goal

abbrev pub invariant-loop-set : goal.invariant-loop-set
invariant-loop-set g l = record {
  problem : l.state.problem ≡ l.initial.state.problem;
  reached : IsReached g.F.Field.scalars l.initial.state.problem l.keep.rows l.target l.initial.state.set l.state.set;
  kept : StillMisses g.F.Field.scalars l.initial.state.problem l.keep.rows l.initial.state.set l.state.set;
}

abbrev pub decreases-loop-set : goal.decreases-loop-set
decreases-loop-set g l = left_over l.state.set l.target
