use Rattle.std.proofs.Common.{◌≡◌, ◌+◌, ◌++◌, Some}
use Rattle.graph_core.specs.declared.ways.Way.{Way}
use Rattle.graph_core.specs.Ways.{way_at, back}
use Rattle.graph_core.proofs.ways.Ways.path.Given as goal

abbrev pub invariant-loop-step : goal.invariant-loop-step
invariant-loop-step l = (w : Way) × (way_at l.self.table.items l.at ≡ Some w) × (w.steps + l._step ≡ l._step-end) ×
    (l.path ++ back l.self.table.items w.steps l.at ≡ back l.self.table.items l._step-end l.from)
