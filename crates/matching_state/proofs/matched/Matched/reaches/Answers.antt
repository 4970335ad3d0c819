use Rattle.std.proofs.Common.{◌≡◌, ◌+◌, ◌*◌, subst, sym, arith}
use Rattle.std.specs.Prelude.{slice_index}
use Rattle.linear_algebra.proofs.IndependenceLaws.{unique_coefficients}
use Rattle.matching_state.specs.Sights.{HasPairAt}
use Rattle.matching_state.proofs.Kept.{front_within}
use Rattle.matching_state.proofs.PairTests.{false_is_not}
use Rattle.matching_state.proofs.SightLaws.{both_zero}
use Rattle.parity_lines.specs.Problems.{line_at}
use Rattle.matching_state.proofs.matched.Matched.reaches.Goals as goal

pub is_pair_at-requires : goal.is_pair_at-requires
is_pair_at-requires g c =
    let room = front_within g.F.Field.scalars g.met.F.Field.lawful _ c.list-first.ensures.kept in
    let long = c.list-first.ensures.combines.one_each.length_is in
    let index = c.requires.index in
    omega arith

pub is_pair_at-requires-else-is_pair_at : goal.is_pair_at-requires-else-is_pair_at
is_pair_at-requires-else-is_pair_at g c =
    let room = front_within g.F.Field.scalars g.met.F.Field.lawful _ c.list-first.ensures.kept in
    let long = c.list-second.ensures.combines.one_each.length_is in
    let index = c.requires.index in
    omega arith

pub returns-then-is_pair_at : goal.returns-then-is_pair_at
returns-then-is_pair_at g c = λ cs ds p q.
    let S = g.F.Field.scalars in
    let s = c.args.self.now in
    let basis = c.list-first.ensures.kept.listed.is_basis in
    let first : c.list-first.result.now ≡ cs = unique_coefficients S g.met.F.Field.lawful s.problem.dimension s.basis (line_at s.problem c.args.line).0 c.list-first.result.now cs basis.vectors basis.independent c.list-first.ensures.combines p in
    (λ h z. c.is_pair_at.ensures.0 h (subst (λ t. HasPairAt t c.args.i S.zero S.zero) (sym first) z.0), λ n. c.if-is_pair_at.true)

pub returns-else-is_pair_at : goal.returns-else-is_pair_at
returns-else-is_pair_at g c = λ cs ds p q.
    let S = g.F.Field.scalars in
    let s = c.args.self.now in
    let basis = c.list-first.ensures.kept.listed.is_basis in
    let first : c.list-first.result.now ≡ cs = unique_coefficients S g.met.F.Field.lawful s.problem.dimension s.basis (line_at s.problem c.args.line).0 c.list-first.result.now cs basis.vectors basis.independent c.list-first.ensures.combines p in
    let second : c.list-second.result.now ≡ ds = unique_coefficients S g.met.F.Field.lawful s.problem.dimension s.basis (line_at s.problem c.args.line).1 c.list-second.result.now ds basis.vectors basis.independent c.list-second.ensures.combines q in
    let none : HasPairAt c.list-first.result.now c.args.i S.zero S.zero = both_zero (slice_index c.list-first.result.now (2 * c.args.i)) (slice_index c.list-first.result.now (2 * c.args.i + 1)) S.zero (λ k. false_is_not c.is_pair_at.result c.if-is_pair_at.false (c.is_pair_at.ensures.1 k)) in (
      λ h z. c.is_pair_at-else-is_pair_at.ensures.0 h (subst (λ t. HasPairAt t c.args.i S.zero S.zero) (sym second) z.1),
      λ n. c.is_pair_at-else-is_pair_at.ensures.1 (λ w. n (subst (λ t. HasPairAt t c.args.i S.zero S.zero) first none, subst (λ t. HasPairAt t c.args.i S.zero S.zero) second w)),
    )
