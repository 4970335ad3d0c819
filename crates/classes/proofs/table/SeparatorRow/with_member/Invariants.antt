use Rattle.classes.proofs.TableLaws.{AreNextSeparators}
use Rattle.classes.proofs.table.SeparatorRow.with_member.Given as goal

abbrev pub invariant-loop-i : goal.invariant-loop-i
invariant-loop-i g l = AreNextSeparators l.directions l.line l.member l.self l.i l.members.items
