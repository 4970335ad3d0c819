use Rattle.std.proofs.Common.{All, length, take}
use Rattle.overlap.specs.Candidates.{DoOverlap}
use Rattle.overlap.proofs.pairs.partner.Given as goal

abbrev pub invariant-loop-second : goal.invariant-loop-second
invariant-loop-second g l = All (λ x. ¬ (DoOverlap g.F.Field.scalars (length l.first.residue) l.first x)) (take l.second-index l.others)
