use Rattle.std.proofs.Common.{ℕ, ◌<◌}
use Rattle.classes.specs.Supports.{StaysInClass}
use Rattle.classes.proofs.supports.stray_support.Given as goal

abbrev pub invariant-loop-line : goal.invariant-loop-line
invariant-loop-line g l = (k : ℕ) → k < l.line → StaysInClass g.F.Field.scalars l.state.problem l.labels l.state.set k
