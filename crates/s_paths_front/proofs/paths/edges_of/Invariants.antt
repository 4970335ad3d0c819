use Rattle.std.proofs.Common.{◌≡◌, take}
use Rattle.s_paths_front.proofs.paths.edges_of.Given as goal

abbrev pub invariant-loop-i : goal.invariant-loop-i
invariant-loop-i l = l.edges ≡ take l.i l.set
