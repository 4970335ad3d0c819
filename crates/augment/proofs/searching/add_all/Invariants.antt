use Rattle.augment.specs.FirstSets.{KeepsFirst}
use Rattle.augment.proofs.searching.add_all.Given as goal

abbrev pub invariant-loop-i : goal.invariant-loop-i
invariant-loop-i g l = KeepsFirst l.initial.family l.family
