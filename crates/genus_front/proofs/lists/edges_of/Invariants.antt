use Rattle.std.proofs.Common.{◌≡◌, take}
use Rattle.genus_front.specs.GenusProblems.{edges_of}
use Rattle.genus_front.proofs.lists.edges_of.Given as goal

abbrev pub invariant-loop-i : goal.invariant-loop-i
invariant-loop-i l = l.list ≡ edges_of l.pairs (take l.i l.set)
