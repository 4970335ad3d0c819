use Rattle.std.proofs.Common.{map}
use Rattle.parity_lines.specs.Problems.{ParityProblem}
use Rattle.quotients.proofs.Results.{if_ok}
use Rattle.augment.proofs.ShorterSets.{coordinates_long, shorter_set, some_component}
use Rattle.augment.specs.Divided.{IsModulo, IsShortened}
use Rattle.augment.proofs.modulo.shortened.Goals as goal

pub component_line-requires : goal.component_line-requires
component_line-requires g c =
    let told = rw c.in-Some.is at c.in_ok-coordinates.ensures in
    coordinates_long g.F.Field.scalars g.met.F.Field.lawful c.args.problem.now c.len-lines.ensures.problem c.args.set.now
    c.requires.independent
    c.in_ok-state.state c.in_ok-state.ensures c.in-Some.coordinates (map g.F.Field.number c.args.point.now) told _ c.as_slice.ensures.len

pub unreachable-requires-in-None : goal.unreachable-requires-in-None
unreachable-requires-in-None g c =
    let told = rw c.in-Some.is at c.in_ok-coordinates.ensures in
    some_component g.F.Field.scalars g.met.F.Field.lawful c.args.problem.now c.len-lines.ensures.problem c.args.set.now
    c.requires.independent
    c.in_ok-state.state c.in_ok-state.ensures c.in-Some.coordinates (map g.F.Field.number c.args.point.now) told
    (map g.F.Field.number c.as_slice.result.now) c.as_slice.ensures.value c.requires.vector c.requires.not_zero c.in-None.ensures

pub returns : goal.returns
returns g c =
    let S = g.F.Field.scalars in
    let p = c.args.problem.now in
    let M = c.args.set.now in
    let x = map g.F.Field.number c.args.point.now in
    let told = rw c.in-Some.is at c.in_ok-coordinates.ensures in
    if_ok c.without.result _ (λ rest. (q : ParityProblem) → IsModulo S x p q → IsShortened S q M rest)
    (λ rest w. shorter_set S g.met.F.Field.lawful p c.len-lines.ensures.problem M c.requires.independent c.in_ok-state.state
    c.in_ok-state.ensures
    c.in-Some.coordinates x told (map g.F.Field.number c.as_slice.result.now) c.as_slice.ensures.value c.in-Some-component_line.line
    c.in-Some-component_line.ensures rest (record { increasing = w.0; lines = w.1 })) c.without.ensures
