use Rattle.std.proofs.Common.{take}
use Rattle.linear_algebra.specs.Scalars.{IsField}
use Rattle.classes.specs.Tables.{IsTableOf}
use Rattle.classes.proofs.growing.take_members.Given as goal

abbrev pub invariant-loop-member : goal.invariant-loop-member
invariant-loop-member g l = (L : IsField g.F.Field.scalars) → IsTableOf g.F.Field.scalars L l.family.problem (take l.member l.family.sets) l.table
