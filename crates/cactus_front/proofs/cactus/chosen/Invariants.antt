use Rattle.std.proofs.Common.{◌≡◌, [], map, take}
use Rattle.std.specs.Prelude.{slice_index_or}
use Rattle.cactus_front.proofs.cactus.chosen.Given as goal

abbrev pub invariant-loop-i : goal.invariant-loop-i
invariant-loop-i l = l.found ≡ map (λ i. slice_index_or l.lists i []) (take l.i l.set)
