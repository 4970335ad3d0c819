use Rattle.std.proofs.Common.{All, take}
use Rattle.matching_state.specs.Sights.{Cross}
use Rattle.matching_state.proofs.matched.Matched.first_across.Given as goal

abbrev pub invariant-loop-x : goal.invariant-loop-x
invariant-loop-x g l = All (λ x. ¬ (Cross g.F.Field.scalars g.F.Field.number l.self.problem l.self.set l.first x.exposed l.i)) (take l.x-index l.entries)
