use Rattle.std.proofs.Common.{take}
use Rattle.parity_lines.proofs.Growth.{HasGrownBy}
use Rattle.parity_lines.proofs.ranks.insert_lines.Given as goal

abbrev pub invariant-loop-i : goal.invariant-loop-i
invariant-loop-i g l = HasGrownBy g.F.Field.scalars g.met.F.Field.lawful l.problem (take l.i l.part) l.initial.basis l.basis
