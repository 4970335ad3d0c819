use Rattle.std.proofs.Common.{length}
use Rattle.class_theory.proofs.PairCounts.{pairs_below}
use Rattle.linear_algebra.specs.Scalars.{IsField}
use Rattle.classes.specs.Partitions.{HasGrown}
use Rattle.classes.specs.Tables.{akin_at}
use Rattle.classes.specs.Turns.{IsTurn}
use Rattle.classes.proofs.partitioning.turns.Given as goal

abbrev pub invariant-loop-classes : goal.invariant-loop-classes
invariant-loop-classes g l = record {
  grown : HasGrown g.F.Field.scalars l.initial.family l.family;
  turn : (L : IsField g.F.Field.scalars) → IsTurn g.F.Field.scalars L l.family l.table;
}

abbrev pub decreases-loop-classes : goal.decreases-loop-classes
decreases-loop-classes g l = pairs_below (length l.family.problem.lines) (akin_at l.table)
