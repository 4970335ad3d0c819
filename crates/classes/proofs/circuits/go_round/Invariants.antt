use Rattle.std.proofs.Common.{◌≡◌, length}
use Rattle.linear_algebra.specs.Scalars.{IsField}
use Rattle.classes.specs.Circuits.{IsInCircuit}
use Rattle.parity_theory.proofs.Nearness.{left_over}
use Rattle.classes.proofs.circuits.go_round.Given as goal

abbrev pub invariant-loop-end : goal.invariant-loop-end
invariant-loop-end g l = record {
  problem : l.state.problem ≡ l.initial.state.problem;
  as_long : length l.state.set ≡ length l.initial.state.set;
  circuit : (L : IsField g.F.Field.scalars) → IsInCircuit g.F.Field.scalars L l.initial.state.problem l.target l.keep.rows l.line l.state.set;
}

abbrev pub decreases-loop-end : goal.decreases-loop-end
decreases-loop-end g l = left_over l.state.set l.target
