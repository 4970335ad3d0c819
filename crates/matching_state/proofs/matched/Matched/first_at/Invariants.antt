use Rattle.std.proofs.Common.{All, take}
use Rattle.std.specs.Prelude.{slice_index}
use Rattle.matching_state.specs.Overlaps.{InSupport}
use Rattle.matching_state.proofs.matched.Matched.first_at.Given as goal

abbrev pub invariant-loop-x : goal.invariant-loop-x
invariant-loop-x g l = All (λ x. ¬ (InSupport g.F.Field.scalars l.self.problem l.self.set x.exposed.line (slice_index l.self.set l.i))) (take l.x-index l.entries)
