use Rattle.std.proofs.Common.{take}
use Rattle.genus_front.specs.GenusProblems.{edges_of}
use Rattle.genus_front.specs.GrownRotations.{GrowsTo}
use Rattle.genus_front.proofs.growth.insert_pairs.Given as goal

abbrev pub invariant-loop-i : goal.invariant-loop-i
invariant-loop-i l = GrowsTo l.initial.rotation (edges_of l.pairs (take l.i l.set)) l.i l.rotation
