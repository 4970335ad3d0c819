use Rattle.std.proofs.Common.{◌≡◌, [], replicate}
use Rattle.rotation_system.proofs.lists.Lists.new.Given as goal

abbrev pub invariant-loop-vertex : goal.invariant-loop-vertex
invariant-loop-vertex l = l.lists.items ≡ replicate l._vertex []
