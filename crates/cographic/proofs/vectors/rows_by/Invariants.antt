use Rattle.cographic.specs.Cycles.{AreRowsBy}
use Rattle.cographic.proofs.vectors.rows_by.Given as goal

abbrev pub invariant-loop-edge : goal.invariant-loop-edge
invariant-loop-edge g l = AreRowsBy g.F.Field.scalars l.cycles l.edge l.rows
