use Rattle.std.proofs.Common.{◌≡◌, ◌+◌, ◌*◌, [], length, get_or, ap, subst, sym, ◌∙◌, arith}
use Rattle.coordinates.specs.Bases.{unit_vector}
use Rattle.linear_algebra.specs.Spans.{Combines}
use Rattle.matching_state.specs.Bases.{IsKept}
use Rattle.matching_state.specs.Chosen.{Chosen}
use Rattle.matching_state.proofs.Kept.{kept_long, unit_combined}
use Rattle.matching_state.proofs.matched.Matched.unit.Goals as goal

pub overflow_add-len : goal.overflow_add-len
overflow_add-len g c =
    let long = kept_long g.F.Field.scalars g.met.F.Field.lawful _ c.self.invariant in
    let lines = c.len.ensures.value in
    let wide = ap (λ (s : Chosen). s.problem.dimension) c.self.view_is in
    let r = c.requires in
    omega (arith, c.len-lists.ensures, c.len-lists.type_inv)

pub list-requires : goal.list-requires
list-requires g c =
    let long = kept_long g.F.Field.scalars g.met.F.Field.lawful _ c.self.invariant in
    let lines = c.len.ensures.value in
    let wide = ap (λ (s : Chosen). s.problem.dimension) c.self.view_is in
    let r = c.requires in
    omega arith

pub returns-clause-combines : goal.returns-clause-combines
returns-clause-combines g c =
    let S = g.F.Field.scalars in
    let s = c.args.self.now in
    let i = c.args.i in
    let K : IsKept S s = subst (IsKept S) c.self.view_is c.self.invariant in
    let lines : c.len.result ≡ length s.problem.lines = c.len.ensures.value ∙ ap (λ (t : Chosen). length t.problem.lines) c.self.view_is in
    let seen : c.list.result.now ≡ get_or s.kept (2 * c.len.result + i) [] =
    subst (λ (t : Chosen). c.list.result.now ≡ get_or t.kept (2 * c.len.result + i) []) c.self.view_is c.list.ensures.value in
    let at : c.list.result.now ≡ get_or s.kept (2 * length s.problem.lines + i) [] = seen ∙ ap (λ n. get_or s.kept (2 * n + i) []) lines in
    subst (λ cs. Combines S s.problem.dimension s.basis cs (unit_vector S s.problem.dimension i)) (sym at) (unit_combined S g.met.F.Field.lawful s K i c.requires)
