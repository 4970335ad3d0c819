use Rattle.std.proofs.Common.{◌≡◌, ◌+◌, ◌*◌, [], length, get_or, if◌then◌else◌, ap, subst, sym, arith}
use Rattle.linear_algebra.specs.Spans.{Combines}
use Rattle.matching_state.specs.Bases.{IsKept}
use Rattle.matching_state.specs.Chosen.{Chosen}
use Rattle.matching_state.proofs.Kept.{kept_long, first_combined, second_combined}
use Rattle.parity_lines.specs.Problems.{line_at}
use Rattle.matching_state.proofs.matched.Matched.list.Goals as goal

pub overflow_mul-line : goal.overflow_mul-line
overflow_mul-line g c =
    let long = kept_long g.F.Field.scalars g.met.F.Field.lawful _ c.self.invariant in
    let seen = ap (λ (s : Chosen). length s.problem.lines) c.self.view_is in
    let r = c.requires in
    omega arith

pub overflow_add-line : goal.overflow_add-line
overflow_add-line g c =
    let long = kept_long g.F.Field.scalars g.met.F.Field.lawful _ c.self.invariant in
    let seen = ap (λ (s : Chosen). length s.problem.lines) c.self.view_is in
    let r = c.requires in
    omega arith

pub list-requires : goal.list-requires
list-requires g c =
    let long = kept_long g.F.Field.scalars g.met.F.Field.lawful _ c.self.invariant in
    let seen = ap (λ (s : Chosen). length s.problem.lines) c.self.view_is in
    let r = c.requires in
    omega arith

pub overflow_mul-line-else-second : goal.overflow_mul-line-else-second
overflow_mul-line-else-second g c =
    let long = kept_long g.F.Field.scalars g.met.F.Field.lawful _ c.self.invariant in
    let seen = ap (λ (s : Chosen). length s.problem.lines) c.self.view_is in
    let r = c.requires in
    omega arith

pub list-requires-else-second : goal.list-requires-else-second
list-requires-else-second g c =
    let long = kept_long g.F.Field.scalars g.met.F.Field.lawful _ c.self.invariant in
    let seen = ap (λ (s : Chosen). length s.problem.lines) c.self.view_is in
    let r = c.requires in
    omega arith

pub returns-then-second-clause-combines : goal.returns-then-second-clause-combines
returns-then-second-clause-combines g c =
    let S = g.F.Field.scalars in
    let s = c.args.self.now in
    let e = c.args.line in
    let K : IsKept S s = subst (IsKept S) c.self.view_is c.self.invariant in
    let at : c.list.result.now ≡ get_or s.kept (2 * e + 1) [] =
    subst (λ (t : Chosen). c.list.result.now ≡ get_or t.kept (2 * e + 1) []) c.self.view_is c.list.ensures.value in
    subst (λ b. Combines S s.problem.dimension s.basis c.list.result.now (if b then (line_at s.problem e).1 else (line_at s.problem e).0)) (sym c.if-second.true)
    (subst (λ cs. Combines S s.problem.dimension s.basis cs (line_at s.problem e).1) (sym at) (second_combined S g.met.F.Field.lawful s K e c.requires))

pub returns-else-second-clause-combines : goal.returns-else-second-clause-combines
returns-else-second-clause-combines g c =
    let S = g.F.Field.scalars in
    let s = c.args.self.now in
    let e = c.args.line in
    let K : IsKept S s = subst (IsKept S) c.self.view_is c.self.invariant in
    let at : c.list-else-second.result.now ≡ get_or s.kept (2 * e) [] =
    subst (λ (t : Chosen). c.list-else-second.result.now ≡ get_or t.kept (2 * e) []) c.self.view_is c.list-else-second.ensures.value in
    subst (λ b. Combines S s.problem.dimension s.basis c.list-else-second.result.now (if b then (line_at s.problem e).1 else (line_at s.problem e).0)) (sym c.if-second.false)
    (subst (λ cs. Combines S s.problem.dimension s.basis cs (line_at s.problem e).0) (sym at) (first_combined S g.met.F.Field.lawful s K e c.requires))
