use Rattle.std.proofs.Common.{All, length, take}
use Rattle.overlap.specs.Candidates.{DoOverlap}
use Rattle.overlap.proofs.pairs.overlapping_pair.Given as goal

abbrev pub invariant-loop-first : goal.invariant-loop-first
invariant-loop-first g l = All (λ x. All (λ y. ¬ (DoOverlap g.F.Field.scalars (length x.residue) x y)) l.exposed) (take l.first-index l.exposed)
