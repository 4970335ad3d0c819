use Rattle.std.proofs.Common.{◌≡◌, take}
use Rattle.edge_lists.specs.Occurrences.{without}
use Rattle.genus_front.proofs.lists.outside.Given as goal

abbrev pub invariant-loop-i : goal.invariant-loop-i
invariant-loop-i l = l.list ≡ without l.others (take l.i l.edges)
