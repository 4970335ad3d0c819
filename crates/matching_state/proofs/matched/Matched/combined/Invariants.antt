use Rattle.std.proofs.Common.{map, take}
use Rattle.coordinates.specs.Bases.{unit_vectors}
use Rattle.linear_algebra.specs.Spans.{combination, Combines}
use Rattle.matching_state.proofs.matched.Matched.combined.Given as goal

abbrev pub invariant-loop-i : goal.invariant-loop-i
invariant-loop-i g l =
    let S = g.F.Field.scalars in
    let d = l.self.problem.dimension in
    Combines S d l.self.basis l.row (combination S d (take l.i (map g.F.Field.number l.v)) (unit_vectors S d))
