use Rattle.std.proofs.Common.{◌≡◌, take}
use Rattle.edge_lists.specs.Occurrences.{count}
use Rattle.genus_front.proofs.lists.holds.Given as goal

abbrev pub invariant-loop-i : goal.invariant-loop-i
invariant-loop-i l = count l.edge (take l.i l.list) ≡ 0
