use Rattle.std.proofs.Common.{◌+◌, ◌*◌, subst, arith}
use Rattle.linear_algebra.specs.Spans.{Combines}
use Rattle.matching_state.specs.Sights.{other_of}
use Rattle.matching_state.proofs.Kept.{front_within}
use Rattle.matching_state.proofs.Seen.{tip_entry, turned}
use Rattle.matching_state.proofs.matched.Matched.tip_pair.Goals as goal

pub overflow_mul-j : goal.overflow_mul-j
overflow_mul-j g c =
    let room = front_within g.F.Field.scalars g.met.F.Field.lawful _ c.list-outer.ensures.kept in
    let long = c.list-other.ensures.combines.one_each.length_is in
    let index = c.requires.index in
    omega (arith, c.len-entries.ensures)

pub get-requires : goal.get-requires
get-requires g c =
    let room = front_within g.F.Field.scalars g.met.F.Field.lawful _ c.list-outer.ensures.kept in
    let long = c.list-other.ensures.combines.one_each.length_is in
    let index = c.requires.index in
    omega arith

pub get-requires-2 : goal.get-requires-2
get-requires-2 g c =
    let room = front_within g.F.Field.scalars g.met.F.Field.lawful _ c.list-outer.ensures.kept in
    let long = c.list-outer.ensures.combines.one_each.length_is in
    let index = c.requires.index in
    omega arith

pub overflow_add-j : goal.overflow_add-j
overflow_add-j g c =
    let room = front_within g.F.Field.scalars g.met.F.Field.lawful _ c.list-outer.ensures.kept in
    let long = c.list-other.ensures.combines.one_each.length_is in
    let index = c.requires.index in
    omega (arith, c.len-entries.ensures, c.len-entries.type_inv)

pub get-requires-3 : goal.get-requires-3
get-requires-3 g c =
    let room = front_within g.F.Field.scalars g.met.F.Field.lawful _ c.list-outer.ensures.kept in
    let long = c.list-other.ensures.combines.one_each.length_is in
    let index = c.requires.index in
    omega arith

pub overflow_add-j-2 : goal.overflow_add-j-2
overflow_add-j-2 g c =
    let room = front_within g.F.Field.scalars g.met.F.Field.lawful _ c.list-outer.ensures.kept in
    let long = c.list-other.ensures.combines.one_each.length_is in
    let index = c.requires.index in
    omega (arith, c.len-entries.ensures, c.len-entries.type_inv)

pub get-requires-4 : goal.get-requires-4
get-requires-4 g c =
    let room = front_within g.F.Field.scalars g.met.F.Field.lawful _ c.list-outer.ensures.kept in
    let long = c.list-outer.ensures.combines.one_each.length_is in
    let index = c.requires.index in
    omega arith

pub returns : goal.returns
returns g c = λ rest cs q.
    let S = g.F.Field.scalars in
    let n = g.F.Field.number in
    let F = g.met.F.Field.lawful in
    let s = c.args.self.now in
    let x = c.args.exposed in
    let index = c.requires.index in
    let b : Combines S s.problem.dimension s.basis c.list-other.result.now (other_of s.problem x.line x.second) =
    subst (Combines S s.problem.dimension s.basis c.list-other.result.now) (turned s.problem x.line x.second) c.list-other.ensures.combines in (
      tip_entry S F s c.list-outer.ensures.kept x.line x.second (n x.factor) c.list-outer.result.now c.list-other.result.now rest cs (g.met.F.Field.is_scalar x.factor) c.list-outer.ensures.combines b q
          (2 * c.args.i) (n c.sub-first.result) (n c.mul.result) (n c.get-2.result) (n c.get.result) (omega arith) (g.met.F.Field.is_scalar c.sub-first.result) c.mul.ensures c.get-2.ensures c.sub-first.ensures c.get.ensures,
      tip_entry S F s c.list-outer.ensures.kept x.line x.second (n x.factor) c.list-outer.result.now c.list-other.result.now rest cs (g.met.F.Field.is_scalar x.factor) c.list-outer.ensures.combines b q
          (2 * c.args.i + 1) (n c.sub-second.result) (n c.mul-2.result) (n c.get-4.result) (n c.get-3.result) (omega arith) (g.met.F.Field.is_scalar c.sub-second.result) c.mul-2.ensures c.get-4.ensures c.sub-second.ensures c.get-3.ensures,
    )
