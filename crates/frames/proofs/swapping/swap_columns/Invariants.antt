use Rattle.std.proofs.Common.{◌≡◌}
use Rattle.std.specs.List.{swap}
use Rattle.frames.proofs.Walks.{AreChanged}
use Rattle.frames.proofs.swapping.swap_columns.Given as goal

abbrev pub invariant-loop-t : goal.invariant-loop-t
invariant-loop-t g l = AreChanged (λ list changed. changed ≡ swap list l.i l.j) l.initial.lists l.lists l.t
