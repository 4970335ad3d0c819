use Rattle.std.proofs.Common.{ℕ, List, take}
use Rattle.matching_state.specs.LinePlaces.{IsTip}
use Rattle.matching_state.specs.Supports.{IsSupport}
use Rattle.matching_state.proofs.matched.Matched.support.Given as goal

abbrev pub invariant-loop-i : goal.invariant-loop-i
invariant-loop-i g l =
    let S = g.F.Field.scalars in
    (tip cs : List ℕ) → IsTip S l.self.problem l.self.set l.exposed.line tip cs → IsSupport S (take l.i l.self.set) cs l.support
