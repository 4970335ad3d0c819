use Rattle.std.proofs.Common.{◌+◌, length, map, ap, sym, refl, ◌∙◌}
use Rattle.linear_algebra.specs.Vectors.{vector_sum}
use Rattle.linear_algebra.specs.Spans.{combination}
use Rattle.field_core.proofs.Values.{vector_of_values}
use Rattle.echelon.specs.Eliminations.{taken}
use Rattle.echelon.proofs.Loops.{reduced-none, reduced_more, pivot_within, added_more, added-none}
use Rattle.echelon.proofs.elimination.reduce_with.Goals as goal

pub loop-step-init : goal.loop-step-init
loop-step-init g c =
    let S = g.F.Field.scalars in
    let f = g.F.Field.number in
    let d = length c.args.v.now in
    let none = c.new-coefficients.ensures.items in
    record {
      long = ap length none;
      rest = reduced-none g.row.F.Denot S (map f c.args.v.now);
      added = added-none S g.met.F.Field.lawful d (map f c.args.v.now) (taken c.args.steps.now) (vector_of_values S f g.met.F.Field.is_scalar c.args.v.now d refl)
          ∙ ap (λ cs. vector_sum S (map f c.args.v.now) (combination S d (map f cs) (taken c.args.steps.now))) (sym none);
    }

pub loop-step-preserved : goal.loop-step-preserved
loop-step-preserved g c =
    let S = g.F.Field.scalars in
    let f = g.F.Field.number in
    let vector = vector_of_values S f g.met.F.Field.is_scalar in
    let d = length c.args.v.now in
    let ss = c.args.steps.now in
    let i = c.loop-step.step-index in
    let s = c.step-item.result in
    let first = map f c.args.v.now in
    let old = map f c.loop-step.v in
    let new = map f c.eliminate-factor.new.v in
    let so_far = c.loop-step.invariant in
    record {
      long = c.in_ok-add_coefficients.ensures.long ∙ ap (λ n. n + 1) so_far.long;
      rest = reduced_more S ss i s first old new c.loop-step-test.true c.step-item.is so_far.rest c.eliminate-factor.ensures.rest;
      added = added_more S g.met.F.Field.lawful d ss c.requires i s first old new (map f c.loop-step.coefficients.items) (map f c.add_coefficients.new.coefficients.items) (f c.eliminate-factor.result)
          c.loop-step-test.true c.step-item.is (vector c.args.v.now d refl) (vector c.loop-step.coefficients.items i so_far.long) (g.met.F.Field.is_scalar c.eliminate-factor.result)
          c.eliminate-factor.ensures.factor c.eliminate-factor.ensures.rest c.in_ok-add_coefficients.ensures.sum so_far.added;
    }
