use Rattle.std.proofs.Common.{take}
use Rattle.exchanges.proofs.GrownByRows.{HasGrownBy}
use Rattle.exchanges.proofs.span.insert_rows.Given as goal

abbrev pub invariant-loop-i : goal.invariant-loop-i
invariant-loop-i g l = HasGrownBy g.F.Field.scalars g.met.F.Field.lawful (take l.i l.vectors.rows) l.initial.basis l.basis
