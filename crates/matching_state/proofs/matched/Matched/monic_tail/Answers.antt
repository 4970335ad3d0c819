use Rattle.std.proofs.Common.{◌≡◌, ◌*◌, drop, length, ap, subst, ◌∙◌, arith}
use Rattle.std.proofs.lemmas.Result.{IfOk-weaker}
use Rattle.coordinates.proofs.Tails.{drop_vector}
use Rattle.matching_state.proofs.Kept.{front_within}
use Rattle.matching_state.proofs.TailLaws.{IsZeroFrom, inside_of_tail}
use Rattle.matching_state.specs.Sights.{outer_of}
use Rattle.parity_lines.proofs.Relations.{monic_multiple}
use Rattle.parity_lines.specs.Relations.{IsMonicMultiple}
use Rattle.matching_state.proofs.matched.Matched.monic_tail.Goals as goal

pub overflow_mul-from : goal.overflow_mul-from
overflow_mul-from g c =
    let room = front_within g.F.Field.scalars g.met.F.Field.lawful _ c.list-row.ensures.kept in
    let long = c.list-row.ensures.combines.one_each.length_is in
    let count = c.len-from.ensures.value ∙ ap length c.set.ensures.value in
    omega (arith, c.len-entries.ensures, c.len-entries.type_inv)

pub lead_inverse-requires : goal.lead_inverse-requires
lead_inverse-requires g c = λ z.
    let S = g.F.Field.scalars in
    let s = c.args.self.now in
    let x = c.args.exposed in
    let count : c.len-from.result ≡ length s.set = c.len-from.ensures.value ∙ ap length c.set.ensures.value in
    c.requires.outer.outside (inside_of_tail S g.met.F.Field.lawful s c.list-row.ensures.kept c.list-row.result.now (outer_of s.problem x.line x.second) c.list-row.ensures.combines
    (subst (λ m. IsZeroFrom S (2 * m) c.list-row.result.now) count z))

pub returns : goal.returns
returns g c =
    let S = g.F.Field.scalars in
    let s = c.args.self.now in
    let row = c.list-row.result.now in
    let from = 2 * c.len-from.result in
    let count : c.len-from.result ≡ length s.set = c.len-from.ensures.value ∙ ap length c.set.ensures.value in
    let entries = (drop_vector S g.met.F.Field.lawful (length s.basis) from row c.list-row.ensures.combines.one_each).entries in
    IfOk-weaker c.multiple_from.result _ _ (λ tail e. record {
      coordinates = row;
      combines = c.list-row.ensures.combines;
      monic = subst (λ m. IsMonicMultiple S (drop (2 * m) row) tail.items) count
          (monic_multiple S g.met.F.Field.lawful (drop from row) tail.items (g.F.Field.number c.lead_inverse.result) entries (g.met.F.Field.is_scalar c.lead_inverse.result) c.lead_inverse.ensures e);
    }) c.multiple_from.ensures
