use Rattle.std.proofs.Common.{◌≡◌, ◌≢◌, ◌≤◌, ◌*◌, ℕ, length, drop, ap, subst, ◌∙◌, arith}
use Rattle.linear_algebra.specs.Scalars.{IsScalar}
use Rattle.linear_algebra.specs.Vectors.{multiple}
use Rattle.matching_state.proofs.Kept.{front_within}
use Rattle.matching_state.proofs.Seen.{inside_seen, second_seen, first_seen, free_seen}
use Rattle.matching_state.proofs.TailLaws.{IsZeroFrom}
use Rattle.matching_state.proofs.matched.Matched.sight.Goals as goal

pub overflow_mul-from : goal.overflow_mul-from
overflow_mul-from g c =
    let room = front_within g.F.Field.scalars g.met.F.Field.lawful _ c.list-first.ensures.kept in
    let long = c.list-first.ensures.combines.one_each.length_is in
    let fits = c.len-entries.type_inv in
    let entries = c.len-entries.ensures in
    let count = c.len-from.ensures.value ∙ ap length c.set.ensures.value in
    omega arith

pub sight_with-requires-clause-rest : goal.sight_with-requires-clause-rest
sight_with-requires-clause-rest g c =
    let S = g.F.Field.scalars in
    let s = c.args.self.now in
    let count : c.len-from.result ≡ length s.set = c.len-from.ensures.value ∙ ap length c.set.ensures.value in
    let first = subst (λ m. IsZeroFrom S (2 * m) c.list-first.result.now) count c.in-None-Some.ensures in
    let second = c.in-None-Some.ensures' in
    second_seen S g.met.F.Field.lawful s c.list-first.ensures.kept c.args.line c.requires c.list-first.result.now c.list-second.result.now c.list-first.ensures.combines c.list-second.ensures.combines
    g.F.Field.number c.zero.result c.zero.ensures first c.in-None-Some.field-0-1 (subst (λ m. 2 * m ≤ c.in-None-Some.field-0-1) count second.0) second.1 second.2

pub sight_with-requires-in-Some-clause-rest : goal.sight_with-requires-in-Some-clause-rest
sight_with-requires-in-Some-clause-rest g c =
    let S = g.F.Field.scalars in
    let s = c.args.self.now in
    let count : c.len-from.result ≡ length s.set = c.len-from.ensures.value ∙ ap length c.set.ensures.value in
    let lead = c.in-Some-default.ensures in
    let n = g.F.Field.number c.in-Some.factor in
    first_seen S g.met.F.Field.lawful s c.list-first.ensures.kept c.args.line c.requires c.list-first.result.now c.list-second.result.now c.list-first.ensures.combines c.list-second.ensures.combines
    c.in-Some-default.lead (subst (λ m. 2 * m ≤ c.in-Some-default.lead) count lead.0) lead.1 lead.2 g.F.Field.number c.in-Some.factor (g.met.F.Field.is_scalar c.in-Some.factor)
    (subst (λ m. drop (2 * m) c.list-second.result.now ≡ multiple S n (drop (2 * m) c.list-first.result.now)) count c.in-Some.ensures)

pub returns-in-None-None : goal.returns-in-None-None
returns-in-None-None g c =
    let S = g.F.Field.scalars in
    let s = c.args.self.now in
    let count : c.len-from.result ≡ length s.set = c.len-from.ensures.value ∙ ap length c.set.ensures.value in
    inside_seen S g.met.F.Field.lawful s c.list-first.ensures.kept c.args.line c.requires c.list-first.result.now c.list-second.result.now c.list-first.ensures.combines c.list-second.ensures.combines
    (subst (λ m. IsZeroFrom S (2 * m) c.list-first.result.now) count c.in-None-None.ensures) (subst (λ m. IsZeroFrom S (2 * m) c.list-second.result.now) count c.in-None-None.ensures')

pub returns-in-None : goal.returns-in-None
returns-in-None g c =
    let S = g.F.Field.scalars in
    let s = c.args.self.now in
    let count : c.len-from.result ≡ length s.set = c.len-from.ensures.value ∙ ap length c.set.ensures.value in
    let lead = c.in-Some-default.ensures in
    free_seen S g.met.F.Field.lawful s c.list-first.ensures.kept c.args.line c.requires c.list-first.result.now c.list-second.result.now c.list-first.ensures.combines c.list-second.ensures.combines
    c.in-Some-default.lead (subst (λ m. 2 * m ≤ c.in-Some-default.lead) count lead.0) lead.1 lead.2
    (subst (λ m. (f : ℕ) → IsScalar S f → drop (2 * m) c.list-second.result.now ≢ multiple S f (drop (2 * m) c.list-first.result.now)) count c.in-None.ensures)
