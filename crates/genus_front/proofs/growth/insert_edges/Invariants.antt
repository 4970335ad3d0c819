use Rattle.std.proofs.Common.{take}
use Rattle.genus_front.specs.GrownRotations.{GrowsBy}
use Rattle.genus_front.proofs.growth.insert_edges.Given as goal

abbrev pub invariant-loop-i : goal.invariant-loop-i
invariant-loop-i l = GrowsBy l.initial.rotation (take l.i l.edges) l.rotation
