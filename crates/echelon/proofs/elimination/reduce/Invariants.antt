use Rattle.std.proofs.Common.{◌≡◌, map, take}
use Rattle.echelon.specs.Eliminations.{reduced}
use Rattle.echelon.proofs.elimination.reduce.Given as goal

abbrev pub invariant-loop-step : goal.invariant-loop-step
invariant-loop-step g l = map g.F.Field.number l.v ≡ reduced g.F.Field.scalars (take l.step-index l.steps) (map g.F.Field.number l.initial.v)
