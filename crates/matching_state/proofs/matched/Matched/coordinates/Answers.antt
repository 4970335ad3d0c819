use Rattle.std.proofs.Common.{◌≡◌, ◌≤◌, ◌*◌, length, map, take, ap, subst, sym, ◌∙◌, arith}
use Rattle.linear_algebra.specs.Spans.{Combines}
use Rattle.matching_state.proofs.Kept.{front_within}
use Rattle.matching_state.proofs.TailLaws.{IsZeroFrom, front_combined, outside_of_tail}
use Rattle.parity_lines.specs.Problems.{vectors_at}
use Rattle.matching_state.proofs.matched.Matched.coordinates.Goals as goal

pub overflow_mul-count : goal.overflow_mul-count
overflow_mul-count g c =
    let room = front_within g.F.Field.scalars g.met.F.Field.lawful _ c.set.ensures.kept in
    let long = c.in_ok-row.ensures.combines.one_each.length_is in
    let count = c.len-count.ensures.value ∙ ap length c.set.ensures.value in
    omega (arith, c.len-entries.ensures, c.len-entries.type_inv)

pub returns-in-Some : goal.returns-in-Some
returns-in-Some g c =
    let S = g.F.Field.scalars in
    let s = c.args.self.now in
    let count : c.len-count.result ≡ length s.set = c.len-count.ensures.value ∙ ap length c.set.ensures.value in
    let lead = c.in-Some.ensures in
    outside_of_tail S g.met.F.Field.lawful s c.set.ensures.kept c.in_ok-row.row (map g.F.Field.number c.args.v.now) c.in_ok-row.ensures.combines c.in-Some.field-0
    (subst (λ m. 2 * m ≤ c.in-Some.field-0) count lead.0) lead.1 lead.2

pub front-requires : goal.front-requires
front-requires g c =
    let room = front_within g.F.Field.scalars g.met.F.Field.lawful _ c.set.ensures.kept in
    let long = c.in_ok-row.ensures.combines.one_each.length_is in
    let count = c.len-count.ensures.value ∙ ap length c.set.ensures.value in
    omega arith

pub returns : goal.returns
returns g c =
    let S = g.F.Field.scalars in
    let s = c.args.self.now in
    let row = c.in_ok-row.row in
    let v = map g.F.Field.number c.args.v.now in
    let count : c.len-count.result ≡ length s.set = c.len-count.ensures.value ∙ ap length c.set.ensures.value in
    let zeros = subst (λ m. IsZeroFrom S (2 * m) row) count c.in-None.ensures in
    subst (λ cs. Combines S s.problem.dimension (vectors_at s.problem s.set) cs v) (sym (c.in_ok-front-in-None.ensures ∙ ap (λ m. take (2 * m) row) count))
    (front_combined S g.met.F.Field.lawful s c.set.ensures.kept row v c.in_ok-row.ensures.combines zeros)
