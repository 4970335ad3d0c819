use Rattle.std.proofs.Common.{All, map, take}
use Rattle.families.specs.Members.{SpansOf}
use Rattle.families.proofs.member.first_outside.Given as goal

abbrev pub invariant-loop-i : goal.invariant-loop-i
invariant-loop-i g l = All (SpansOf g.F.Field.scalars (map g.F.Field.number l.v)) (take l.i l.members)
