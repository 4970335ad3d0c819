use Rattle.std.proofs.Common.{map}
use Rattle.quotients.proofs.LessCombination.{IsLessFirst}
use Rattle.quotients.proofs.meeting.less_combination.Given as goal

abbrev pub invariant-loop-i : goal.invariant-loop-i
invariant-loop-i g l = IsLessFirst g.F.Field.scalars g.met.F.Field.lawful l.rows.width (map g.F.Field.number l.coefficients) l.rows.rows (map g.F.Field.number l.v) l.i l.left
