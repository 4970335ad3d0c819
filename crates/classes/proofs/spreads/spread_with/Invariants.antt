use Rattle.std.proofs.Common.{ℕ, ◌<◌, map, get_or}
use Rattle.linear_algebra.specs.Scalars.{IsField}
use Rattle.classes.proofs.SpreadTies.{AreClose}
use Rattle.classes.proofs.spreads.spread_with.Given as goal

abbrev pub invariant-loop-i : goal.invariant-loop-i
invariant-loop-i g l = (L : IsField g.F.Field.scalars) → (k : ℕ) → k < l.i →
    AreClose g.F.Field.scalars L l.state.problem l.labels l.label (map g.F.Field.number l.o) l.state.set (get_or l.lines k 0)
