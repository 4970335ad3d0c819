use Rattle.classes.proofs.TableLaws.{AreNextRows}
use Rattle.classes.proofs.table.Table.with_member.Given as goal

abbrev pub invariant-loop-line : goal.invariant-loop-line
invariant-loop-line g l = AreNextRows l.directions l.member l.self.rows l.line l.rows.items
