use Rattle.std.proofs.Common.{◌≡◌, take}
use Rattle.rotation_system.proofs.lists.Lists.copy.Given as goal

abbrev pub invariant-loop-vertex : goal.invariant-loop-vertex
invariant-loop-vertex l = l.lists.items ≡ take l.vertex l.self
