use Rattle.std.proofs.Common.{◌≡◌}
use Rattle.search.specs.Walkers.{IsReady}
use Rattle.search.proofs.guessing.judged_after_walk.Given as goal

abbrev pub invariant-loop-longer : goal.invariant-loop-longer
invariant-loop-longer g l = record {
  residues : l.walker.state.problem ≡ l.initial.walker.state.problem;
  ready : IsReady g.F.Field.scalars l.walker;
}
