use Rattle.std.proofs.Common.{map, ◌∙◌, subst}
use Rattle.matching_state.proofs.Ties.{coordinates_vector}
use Rattle.parity_lines.specs.Problems.{IsProblem}
use Rattle.overlap.proofs.OverlapTies.{common_index, proportional_at}
use Rattle.overlap.proofs.PointsOfTips.{is_point}
use Rattle.overlap.specs.PointedOverlaps.{IsPointed}
use Rattle.overlap.proofs.Seen.{both_seen, proportional_seen, point_seen, pointed_seen}
use Rattle.overlap.proofs.pointed.at.Goals as goal

pub point_of-requires-clause-first_long : goal.point_of-requires-clause-first_long
point_of-requires-clause-first_long g c =
    let p = c.args.state.now.problem in
    let P = subst (IsProblem g.F.Field.scalars) {x = c.problem-problem.result.now} {y = p} c.problem-problem.ensures c.len-lines.ensures.problem in
    let t = c.in_ok-one.ensures in
    c.as_slice.ensures.len ∙ (coordinates_vector g.F.Field.scalars g.met.F.Field.lawful p P c.args.state.now.set c.in_ok-one.one t.0 t.1.combines).length_is

pub point_of-requires-clause-second_long : goal.point_of-requires-clause-second_long
point_of-requires-clause-second_long g c =
    let p = c.args.state.now.problem in
    let P = subst (IsProblem g.F.Field.scalars) {x = c.problem-problem.result.now} {y = p} c.problem-problem.ensures c.len-lines.ensures.problem in
    let t = c.in_ok-other.ensures in
    c.as_slice-2.ensures.len ∙ (coordinates_vector g.F.Field.scalars g.met.F.Field.lawful p P c.args.state.now.set c.in_ok-other.other t.0 t.1.combines).length_is

pub point_of-requires-clause-common : goal.point_of-requires-clause-common
point_of-requires-clause-common g c =
    let S = g.F.Field.scalars in
    let p = c.args.state.now.problem in
    let P = subst (IsProblem S) {x = c.problem-problem.result.now} {y = p} c.problem-problem.ensures c.len-lines.ensures.problem in
    let t = c.in_ok-one.ensures in
    let t' = c.in_ok-other.ensures in
    let f = g.F.Field.number in
    both_seen S c.in_ok-one.one c.in_ok-other.other (map f c.as_slice.result.now) (map f c.as_slice-2.result.now) c.as_slice.ensures.value
    c.as_slice-2.ensures.value
    (common_index S g.met.F.Field.lawful p P c.args.state.now.set c.set-set.ensures.independent c.args.first c.args.second c.requires.first_within
    c.requires.second_within c.requires.overlap t.0 c.in_ok-one.one t'.0 c.in_ok-other.other t.1 t'.1)

pub point_of-requires-clause-proportional : goal.point_of-requires-clause-proportional
point_of-requires-clause-proportional g c =
    let S = g.F.Field.scalars in
    let p = c.args.state.now.problem in
    let P = subst (IsProblem S) {x = c.problem-problem.result.now} {y = p} c.problem-problem.ensures c.len-lines.ensures.problem in
    let t = c.in_ok-one.ensures in
    let t' = c.in_ok-other.ensures in
    let f = g.F.Field.number in
    proportional_seen S c.in_ok-one.one c.in_ok-other.other (map f c.as_slice.result.now) (map f c.as_slice-2.result.now)
    c.as_slice.ensures.value c.as_slice-2.ensures.value
    (proportional_at S g.met.F.Field.lawful p P c.args.state.now.set c.set-set.ensures.independent c.args.first c.args.second c.requires.first_within
    c.requires.second_within c.requires.overlap c.requires.no_step t.0 c.in_ok-one.one t'.0 c.in_ok-other.other t.1 t'.1)

pub invariant_of-result : goal.invariant_of-result
invariant_of-result g c =
    let S = g.F.Field.scalars in
    let p = c.args.state.now.problem in
    let M = c.args.state.now.set in
    let i = c.set-set.ensures.independent in
    let P = subst (IsProblem S) {x = c.problem-problem.result.now} {y = p} c.problem-problem.ensures c.len-lines.ensures.problem in
    let t = c.in_ok-one.ensures in
    let t' = c.in_ok-other.ensures in
    let x = c.in_ok-point.point in
    let f = g.F.Field.number in
    let r = point_seen S c.in_ok-one.one c.in_ok-other.other (map f c.as_slice.result.now) (map f c.as_slice-2.result.now)
    c.as_slice.ensures.value c.as_slice-2.ensures.value p M x c.in_ok-point.ensures in
    let made : IsPointed S (record { problem = p; set = M; first = c.args.first; second = c.args.second; point = x }) = record {
      independent = i;
      no_step = c.requires.no_step;
      first_within = c.requires.first_within;
      second_within = c.requires.second_within;
      overlap = c.requires.overlap;
      point = is_point S g.met.F.Field.lawful p P M i c.args.first c.args.second c.requires.first_within c.requires.second_within
          c.requires.overlap t.0 c.in_ok-one.one t'.0 c.in_ok-other.other t.1 t'.1 x r;
    } in
    pointed_seen S p c.problem-problem.result.now M c.set-set.result.now c.in_ok-copied.field-0 c.args.first c.args.second x
    c.problem-problem.ensures c.in_ok-copied.ensures c.set-set.ensures.value made
