use Rattle.std.proofs.Common.{◌≡◌, ℕ, List, length, map, suc, subst}
use Rattle.exchanges.specs.Exchanges.{IsLonger}
use Rattle.parity_lines.specs.LineSets.{IsIndependentSet}
use Rattle.parity_lines.specs.Problems.{IsProblem}
use Rattle.quotients.proofs.Results.{if_ok}
use Rattle.augment.proofs.ClassSteps.{as_long_as_set, independent_here, member_misses, one_more, point_not_common, state_no_step}
use Rattle.augment.proofs.Meetings.{first_as_long}
use Rattle.augment.specs.FirstSets.{first_of}
use Rattle.augment.proofs.raising.raised.Goals as goal

pub at-requires-clause-first_within : goal.at-requires-clause-first_within
at-requires-clause-first_within g c = rw (c.in_ok-state.ensures.problem, c.problem-2.ensures) c.requires.overlapping.first_within

pub at-requires-clause-second_within : goal.at-requires-clause-second_within
at-requires-clause-second_within g c = rw (c.in_ok-state.ensures.problem, c.problem-2.ensures) c.requires.overlapping.second_within

pub at-requires-clause-overlap : goal.at-requires-clause-overlap
at-requires-clause-overlap g c = rw (c.in_ok-state.ensures.problem, c.in_ok-state.ensures.set, c.problem-2.ensures) c.requires.overlapping.overlap

pub at-requires-clause-no_step : goal.at-requires-clause-no_step
at-requires-clause-no_step g c =
    state_no_step g.F.Field.scalars c.args.family.now c.args.set.now c.problem-2.result.now c.problem-2.ensures c.in_ok-state.state
    c.in_ok-state.ensures
    c.requires.overlapping.no_step

pub raise-requires-clause-as_long : goal.raise-requires-clause-as_long
raise-requires-clause-as_long g c =
    let S = g.F.Field.scalars in
    let f = c.args.family.now in
    as_long_as_set S f c.args.set.now c.problem-2.result.now c.problem-2.ensures c.in_ok-state.state c.in_ok-state.ensures c.args.first
    c.args.second
    c.in_ok-overlap.overlap c.in_ok-overlap.ensures c.member.result.now (length (first_of f))
    (first_as_long S f c.len-members.ensures.family c.member.result.now c.member.ensures.size) c.requires.overlapping.set.size

pub raise-requires-clause-misses : goal.raise-requires-clause-misses
raise-requires-clause-misses g c =
    let S = g.F.Field.scalars in
    let f = c.args.family.now in
    let told = rw c.in-Some.is at c.in_ok-i.ensures in
    member_misses S f c.args.set.now c.problem-2.result.now c.problem-2.ensures c.in_ok-state.state c.in_ok-state.ensures c.args.first
    c.args.second
    c.in_ok-overlap.overlap c.in_ok-overlap.ensures (map g.F.Field.number c.point.result.now) c.point.ensures.value c.point.ensures.is_point
    g.met.F.Field.lawful (subst (IsProblem S) {x = c.problem.result.now} {y = f.problem} c.problem.ensures c.len-lines.ensures.problem)
    c.in-Some.i c.member.result.now c.member.ensures.value c.member.ensures.independent told

pub unreachable-requires : goal.unreachable-requires
unreachable-requires g c =
    let told = rw c.in-None.is at c.in_ok-i.ensures in
    point_not_common g.F.Field.scalars c.args.family.now c.args.set.now c.problem-2.result.now c.problem-2.ensures c.in_ok-state.state
    c.in_ok-state.ensures
    c.args.first c.args.second c.in_ok-overlap.overlap c.in_ok-overlap.ensures (map g.F.Field.number c.point.result.now)
    c.point.ensures.value
    c.point.ensures.is_point c.requires.none told

pub returns-clause-independent : goal.returns-clause-independent
returns-clause-independent g c =
    let S = g.F.Field.scalars in
    let f = c.args.family.now in
    if_ok c.raise.result (IsLonger S c.in_ok-overlap.overlap.problem c.member.result.now) (IsIndependentSet S f.problem)
    (λ L l. independent_here S f c.args.set.now c.problem-2.result.now c.problem-2.ensures c.in_ok-state.state c.in_ok-state.ensures
    c.args.first c.args.second c.in_ok-overlap.overlap c.in_ok-overlap.ensures L l.independent) c.raise.ensures

pub returns-clause-longer : goal.returns-clause-longer
returns-clause-longer g c =
    let S = g.F.Field.scalars in
    let f = c.args.family.now in
    if_ok c.raise.result (IsLonger S c.in_ok-overlap.overlap.problem c.member.result.now)
    (λ (L : List ℕ). length L ≡ suc (length (first_of f)))
    (λ L l. one_more (length L) (length c.member.result.now) (length (first_of f)) l.longer
    (first_as_long S f c.len-members.ensures.family c.member.result.now c.member.ensures.size)) c.raise.ensures
