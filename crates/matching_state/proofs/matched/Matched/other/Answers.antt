use Rattle.std.proofs.Common.{◌≡◌, ◌<◌, map, length, if◌then◌else◌, ap, subst, sym, ◌∙◌}
use Rattle.matching_state.specs.Chosen.{Chosen}
use Rattle.parity_lines.specs.Problems.{line_at}
use Rattle.matching_state.proofs.matched.Matched.other.Goals as goal

pub first-requires : goal.first-requires
first-requires g c = subst (λ (t : Chosen). c.args.exposed.line < length t.problem.lines) (sym c.self.view_is) c.requires

pub second-requires : goal.second-requires
second-requires g c = subst (λ (t : Chosen). c.args.exposed.line < length t.problem.lines) (sym c.self.view_is) c.requires

pub returns-then-exposed : goal.returns-then-exposed
returns-then-exposed g c =
    let p = c.args.self.now.problem in
    let e = c.args.exposed.line in
    subst (λ b. map g.F.Field.number c.first.result.now ≡ (if b then (line_at p e).0 else (line_at p e).1)) (sym c.if-exposed.true)
    (c.first.ensures.value ∙ ap (λ (t : Chosen). (line_at t.problem e).0) c.self.view_is)

pub returns-else-exposed : goal.returns-else-exposed
returns-else-exposed g c =
    let p = c.args.self.now.problem in
    let e = c.args.exposed.line in
    subst (λ b. map g.F.Field.number c.second.result.now ≡ (if b then (line_at p e).0 else (line_at p e).1)) (sym c.if-exposed.false)
    (c.second.ensures.value ∙ ap (λ (t : Chosen). (line_at t.problem e).1) c.self.view_is)
