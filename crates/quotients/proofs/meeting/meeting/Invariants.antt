use Rattle.std.proofs.Common.{take}
use Rattle.quotients.proofs.Walks.{IsWalk}
use Rattle.quotients.proofs.meeting.meeting.Given as goal

abbrev pub invariant-loop-i : goal.invariant-loop-i
invariant-loop-i g l = IsWalk g.F.Field.scalars g.met.F.Field.lawful l.us (take l.i l.ws.rows) l.walk
