use Rattle.std.proofs.Common.{◌<◌, ℕ, List}
use Rattle.matching_state.specs.Sights.{HasPairAt, IsRest}
use Rattle.matching_state.proofs.matched.Matched.has_no_tip.Given as goal

abbrev pub invariant-loop-i : goal.invariant-loop-i
invariant-loop-i g l =
    let S = g.F.Field.scalars in
    (rest cs : List ℕ) → IsRest S l.self.problem l.self.set l.seen.line l.seen.second (g.F.Field.number l.seen.factor) rest cs → (j : ℕ) → j < l.i → HasPairAt cs j S.zero S.zero
