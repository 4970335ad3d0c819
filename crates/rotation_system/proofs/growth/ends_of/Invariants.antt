use Rattle.std.proofs.Common.{◌≡◌, take}
use Rattle.rotation_system.proofs.growth.ends_of.Given as goal

abbrev pub invariant-loop-edge : goal.invariant-loop-edge
invariant-loop-edge l = l.ends.items ≡ take l.edge l.graph.ends
