use Rattle.std.proofs.Common.{◌<◌, length, subst, sym, ◌∙◌}
use Rattle.matching_state.specs.Sights.{IsSight}
use Rattle.matching_state.proofs.Kept.{kept_problem}
use Rattle.matching_state.proofs.PlaceLaws.{single_place, exposed_place}
use Rattle.matching_state.proofs.matched.Matched.position.Goals as goal

pub returns-in-Inside : goal.returns-in-Inside
returns-in-Inside g c = subst (IsSight g.F.Field.scalars g.F.Field.number c.args.self.now.problem c.args.self.now.set c.args.line) c.in-Inside.is c.sight.ensures

pub outer-requires : goal.outer-requires
outer-requires g c =
    let s = c.args.self.now in
    let f = subst (IsSight g.F.Field.scalars g.F.Field.number s.problem s.set c.args.line) c.in-Single.is c.sight.ensures in
    subst (λ l. l < length s.problem.lines) (sym f.0) c.requires

pub returns-in_ok-outer-in-Single : goal.returns-in_ok-outer-in-Single
returns-in_ok-outer-in-Single g c =
    let s = c.args.self.now in
    let f = subst (IsSight g.F.Field.scalars g.F.Field.number s.problem s.set c.args.line) c.in-Single.is c.sight.ensures in
    single_place g.F.Field.scalars s.problem s.set g.F.Field.number c.args.line c.in-Single.seen f c.in_ok-outer-in-Single.outer (c.in_ok-outer-in-Single.ensures ∙ c.outer.ensures)

pub returns-in_ok-support-in-Exposed : goal.returns-in_ok-support-in-Exposed
returns-in_ok-support-in-Exposed g c =
    let S = g.F.Field.scalars in
    let s = c.args.self.now in
    let K = c.set-set.ensures.kept in
    let f = subst (IsSight S g.F.Field.number s.problem s.set c.args.line) c.in-Exposed.is c.sight.ensures in
    let t = c.in_ok-tip-in-Exposed.ensures in
    exposed_place S s.problem s.set g.F.Field.number c.args.line c.in-Exposed.seen g.met.F.Field.lawful (kept_problem S g.met.F.Field.lawful s K) K.independent f
    c.in_ok-outer-in-Exposed.outer c.in_ok-tip-in-Exposed.tip t.0 c.in_ok-support-in-Exposed.support (c.in_ok-outer-in-Exposed.ensures ∙ c.outer-in-Exposed.ensures) t.1
    c.in_ok-support-in-Exposed.ensures.increasing c.in_ok-support-in-Exposed.ensures.lines

pub returns-in-Free : goal.returns-in-Free
returns-in-Free g c = subst (IsSight g.F.Field.scalars g.F.Field.number c.args.self.now.problem c.args.self.now.set c.args.line) c.in-Free.is c.sight.ensures
