use Rattle.std.proofs.Common.{◌≡◌, [], ◌∷◌, length, map}
use Rattle.linear_algebra.specs.Scalars.{IsField}
use Rattle.classes.specs.Lasting.{IsLasting}
use Rattle.classes.proofs.PacedTies.{IsWalk}
use Rattle.parity_theory.proofs.Nearness.{left_over}
use Rattle.classes.proofs.lasting.last_exchanges.Given as goal

abbrev pub invariant-loop-keep : goal.invariant-loop-keep
invariant-loop-keep g l = record {
  problem : l.state.problem ≡ l.initial.state.problem;
  as_long : length l.state.set ≡ length l.initial.state.set;
  walk : IsWalk g.F.Field.scalars l.state.problem l.labels (map g.F.Field.number l.o ∷ []) l.vector l.target l.state.set;
  lasting : (L : IsField g.F.Field.scalars) → IsLasting g.F.Field.scalars L l.state.problem l.labels l.target
      (map g.F.Field.number l.o) (map g.F.Field.number l.vector) l.state.set;
}

abbrev pub decreases-loop-keep : goal.decreases-loop-keep
decreases-loop-keep g l = left_over l.state.set l.target
