use Rattle.std.proofs.Common.{◌≡◌, length}
use Rattle.search.specs.Walkers.{IsReady}
use Rattle.search.proofs.guessing.guess.Given as goal

abbrev pub invariant-loop-turn : goal.invariant-loop-turn
invariant-loop-turn g l = record {
  dimension : l.walker.state.problem.dimension ≡ l.problem.dimension;
  lines : length l.walker.state.problem.lines ≡ length l.problem.lines;
  ready : IsReady g.F.Field.scalars l.walker;
}
