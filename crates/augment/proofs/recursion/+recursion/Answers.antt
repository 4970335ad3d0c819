use Rattle.std.proofs.Common.{◌+◌, ℕ, length, map, subst}
use Rattle.parity_lines.specs.Problems.{IsProblem, vectors_at}
use Rattle.augment.proofs.Meetings.{bounded_first, keeps_more, turn_bounded, turn_smaller}
use Rattle.augment.proofs.StepsModulo.{best_made, larger_made}
use Rattle.augment.proofs.FirstSets.{keeps_itself}
use Rattle.augment.specs.FirstSets.{first_of}
use Rattle.augment.proofs.recursion.+recursion.Goals as goal

pub step_by_meeting-points-init : goal.step_by_meeting-points-init
step_by_meeting-points-init g t c =
    let S = g.F.Field.scalars in
    let f = c.args.family.now in
    record {
      keeps = keeps_itself c.args.family.now;
      bounded = bounded_first S g.met.F.Field.lawful f
          (subst (IsProblem S) {x = c.problem.result.now} {y = f.problem} c.problem.ensures c.len-lines.ensures.problem)
          c.len-members.ensures.family;
    }

pub step_by_meeting-points-smaller : goal.step_by_meeting-points-smaller
step_by_meeting-points-smaller g t c =
    let point = rw c.in-Some.is at c.in_ok-point.ensures.found in
    let told = rw c.in-Larger.is at c.in_ok-certificate.ensures in
    let start = c.args.family.now in
    let n : ℕ = length (vectors_at start.problem (first_of start)) + length start.sets in
    turn_smaller g.F.Field.scalars g.met.F.Field.lawful c.points.family c.add.new.self c.in_ok-point.ensures.problem c.in-Some.point
    (map g.F.Field.number c.as_slice.result.now) c.in-Larger.set point c.as_slice.ensures.value told.0 told.2 n c.points.invariant.bounded
    c.in_ok-add-in-Larger.ensures.ok

pub step_by_meeting-points-preserved : goal.step_by_meeting-points-preserved
step_by_meeting-points-preserved g t c =
    let point = rw c.in-Some.is at c.in_ok-point.ensures.found in
    let told = rw c.in-Larger.is at c.in_ok-certificate.ensures in
    let start = c.args.family.now in
    let n : ℕ = length (vectors_at start.problem (first_of start)) + length start.sets in
    record {
      keeps = keeps_more g.F.Field.scalars start c.points.family c.add.new.self c.in-Larger.set c.in_ok-point.ensures.family
          c.points.invariant.keeps
          c.in_ok-add-in-Larger.ensures.ok;
      bounded = turn_bounded g.F.Field.scalars g.met.F.Field.lawful c.points.family c.add.new.self c.in_ok-point.ensures.problem
          c.in-Some.point
          (map g.F.Field.number c.as_slice.result.now) c.in-Larger.set point c.as_slice.ensures.value told.0 told.2 n
          c.points.invariant.bounded
          c.in_ok-add-in-Larger.ensures.ok;
    }

pub step_modulo-returns-in-Larger : goal.step_modulo-returns-in-Larger
step_modulo-returns-in-Larger g t c =
    let told = rw c.in-Larger.is at c.in_ok-set.ensures in
    larger_made g.F.Field.scalars g.met.F.Field.lawful c.args.family.now c.len-members.ensures.family c.problem-problem.result.now
    c.in_ok-modulo.modulo
    c.problem-problem.ensures c.len-lines.ensures.problem c.in_ok-quotient.quotient (map g.F.Field.number c.args.point.now)
    c.in_ok-quotient.ensures
    c.in_ok-modulo.ensures c.in_ok-below.below c.in_ok-below.ensures c.in-Larger.set told

pub step_modulo-returns : goal.step_modulo-returns
step_modulo-returns g t c =
    let told = rw c.in-Best.is at c.in_ok-set.ensures in
    best_made g.F.Field.scalars g.met.F.Field.lawful c.args.family.now c.len-members.ensures.family c.problem-problem.result.now
    c.in_ok-modulo.modulo
    c.problem-problem.ensures c.len-lines.ensures.problem c.in_ok-quotient.quotient (map g.F.Field.number c.args.point.now)
    c.in_ok-quotient.ensures
    c.in_ok-modulo.ensures c.in_ok-below.below c.in_ok-below.ensures c.in-Best.certificate c.in_ok-lifted-in-Best.field-0 told
    c.in_ok-lifted-in-Best.ensures
