use Rattle.coordinates.specs.Bases.{IsPivoted}
use Rattle.frames.proofs.Walks.{AreChanged}
use Rattle.frames.proofs.pivoting.pivot_lists.Given as goal

abbrev pub invariant-loop-t : goal.invariant-loop-t
invariant-loop-t g l = AreChanged (IsPivoted g.F.Field.scalars l.i l.incoming) l.initial.lists l.lists l.t
