use Rattle.augment.proofs.FamiliesModulo.{AreShortened}
use Rattle.augment.specs.FirstSets.{first_of}
use Rattle.augment.proofs.modulo.family_modulo.Given as goal

abbrev pub invariant-loop-i : goal.invariant-loop-i
invariant-loop-i g l = AreShortened g.F.Field.scalars l.modulo (first_of l.family) l.below
