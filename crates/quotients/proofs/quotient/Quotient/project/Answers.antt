use Rattle.std.proofs.Common.{map, ◌≡◌, arith}
use Rattle.std.specs.List.{remove}
use Rattle.quotients.specs.Quotients.{ProjectsBy}
use Rattle.quotients.proofs.Results.{if_ok}
use Rattle.quotients.proofs.Removing.{projects, cleared_long}
use Rattle.quotients.proofs.quotient.Quotient.project.Goals as goal

pub without-requires : goal.without-requires
without-requires g c =
    let f = g.F.Field.number in
    let long = cleared_long g.F.Field.scalars f c.args.v.now c.as_slice-point.result.now c.self.inside.point c.args.self.now
    c.in_ok-cleared.cleared c.add_multiple.new.self (f c.clearing-factor.result)
    c.self.view_is c.requires c.as_slice-point.ensures.value c.in_ok-cleared.ensures c.add_multiple.ensures in
    let within = c.self.invariant.pivot.in_range in
    let same = c.as_slice.ensures.len in
    omega arith

pub returns : goal.returns
returns g c =
    let S = g.F.Field.scalars in
    let f = g.F.Field.number in
    let v = c.args.v.now in
    let shown = map f c.as_slice.result.now in
    if_ok c.without.result (λ w. w ≡ remove shown c.self.inside.pivot) (ProjectsBy S c.args.self.now (map f v)) (λ w.
    projects S f c.self.inside.point c.args.self.now c.self.inside.pivot c.self.view_is c.self.invariant v c.as_slice-point.result.now
    c.in_ok-cleared.cleared c.add_multiple.new.self shown w
    c.index-v-self.result c.index-point-self.result c.clearing-factor.result (g.met.F.Field.is_scalar c.clearing-factor.result)
    c.as_slice-point.ensures.value c.requires c.index-v-self.is c.index-point-self.is c.clearing-factor.ensures
    c.in_ok-cleared.ensures c.add_multiple.ensures c.as_slice.ensures.value) c.without.ensures
