use Rattle.std.proofs.Common.{map}
use Rattle.overlap.proofs.KeptPairs.{AreKeptBelow}
use Rattle.overlap.proofs.point.kept_at_ratio.Given as goal

abbrev pub invariant-loop-i : goal.invariant-loop-i
invariant-loop-i g l = AreKeptBelow g.F.Field.scalars (g.F.Field.number l.factor) (map g.F.Field.number l.first) (map g.F.Field.number l.second) l.i
    (map g.F.Field.number l.kept.items)
