use Rattle.std.proofs.Common.{◌≡◌, ◌+◌, ◌<◌, ◌≤◌, ◌∷◌, length, take, ap, ◌∙◌, sym, subst, arith, eq-eqb}
use Rattle.std.proofs.lemmas.Bool.{eqb-true, true≢false}
use Rattle.std.proofs.lemmas.List.{take_all}
use Rattle.vector_spaces.proofs.Distinct.{IsDistinct}
use Rattle.edge_lists.specs.Occurrences.{count}
use Rattle.cubic_front.specs.CubicGraphs.{ways_from}
use Rattle.cubic_front.proofs.CubicGraphs.{new_way, no_second_way, no_way, no_way_back, one_more, ways-nil}
use Rattle.cubic_front.proofs.cubic.is_cubic.Goals as goal
use Rattle.cubic_front.proofs.cubic.is_cubic.Goals.{in-Some+else-not-is_new, in_default}

pub loop-edge-init : goal.loop-edge-init
loop-edge-init c = record {
  many = sym (ap length (ways-nil c.args.vertex));
  few = omega arith;
  different = subst (λ t. IsDistinct (c.args.vertex ∷ t)) (sym (ways-nil c.args.vertex)) (λ i. i, tt);
}

pub overflow_add-found : goal.overflow_add-found
overflow_add-found c = omega arith

pub loop-edge-preserved : goal.loop-edge-preserved
loop-edge-preserved c =
    let E = c.args.graph.now.ends in
    let v = c.args.vertex in
    let e = c.loop-edge.edge in
    let l : e < length E = omega arith in
    elim c.match-way.branch [
      | in-Some+else-not-is_new w ↦
          let q = w.in-Some.ensures.some in
          let new = w.is_new.ensures.0 w.if-not-is_new.false in
          record {
            many = w.found-is ∙ ap (λ t. t + 1) c.loop-edge.invariant.many ∙ sym (one_more E v e l w.in-Some.other q);
            few = omega arith;
            different = new_way E v e l w.in-Some.other q new.0 new.1 c.loop-edge.invariant.different;
          }
      | in_default w ↦ record {
        many = w.found-is ∙ c.loop-edge.invariant.many ∙ sym (ap length (no_way E v e l w.in_default.ensures.none));
        few = omega arith;
        different = subst (λ t. IsDistinct (v ∷ t)) (sym (no_way E v e l w.in_default.ensures.none)) c.loop-edge.invariant.different;
      }
    ]

pub returns-then-not-is_new : goal.returns-then-not-is_new
returns-then-not-is_new c =
    let E = c.args.graph.now.ends in
    let v = c.args.vertex in
    let e = c.loop-edge.edge in
    let l : e < length E = omega arith in
    let q = c.in-Some.ensures.some in (
      λ h. absurd (true≢false (sym h)),
      λ k.
          let seen : ¬ (1 ≤ count c.in-Some.other (ways_from v (take e E))) = λ j. no_second_way E v e l c.in-Some.other q j k in
          absurd (true≢false (sym (c.is_new.ensures.1 (λ r. no_way_back E v e l c.in-Some.other q r k, omega arith)) ∙ c.if-not-is_new.true)),
    )

pub returns : goal.returns
returns c =
    let E = c.args.graph.now.ends in
    let all : take c.loop-edge.edge E ≡ E = take_all c.loop-edge.edge E (omega arith) in (
      λ h. record {
        three = ap (λ t. length (ways_from c.args.vertex t)) (sym all) ∙ sym c.loop-edge.invariant.many ∙ eqb-true c.loop-edge.found 3 h;
        different = subst (λ t. IsDistinct (c.args.vertex ∷ ways_from c.args.vertex t)) all c.loop-edge.invariant.different;
      },
      λ k. eq-eqb c.loop-edge.found 3 (c.loop-edge.invariant.many ∙ ap (λ t. length (ways_from c.args.vertex t)) all ∙ k.three),
    )
