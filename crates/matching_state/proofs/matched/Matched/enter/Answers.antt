use Rattle.std.proofs.Math.Path.{subst⁻¹}
use Rattle.std.proofs.Common.{◌+◌, ◌<◌, ◌∙◌, ℕ, List, length, refl, ap, subst, arith}
use Rattle.std.specs.List.{Contains}
use Rattle.matching_state.specs.Chosen.{Chosen}
use Rattle.matching_state.proofs.SetsBetween.{IsEntering, all_in, is_new, is_of_other, none_in, one_in, one_there, other_free}
use Rattle.matching_state.proofs.matched.Matched.enter.Goals as goal
use Rattle.matching_state.proofs.matched.Matched.enter.Goals.{then-not-holds+in_ok-insert, else-not-holds}
use Rattle.parity_lines.specs.LineSets.{IsIndependentSet}

pub loop-i-init : goal.loop-i-init
loop-i-init g c = record {
  problem = refl;
  independent = c.set-set.ensures.independent;
  entering = none_in c.args.other.now c.args.self.now.set c.requires.within;
}

pub insert-requires-clause-within : goal.insert-requires-clause-within
insert-requires-clause-within g c =
    let S = g.F.Field.scalars in
    let s = c.loop-i.self in
    let N = c.args.other.now in
    let h = c.loop-i.invariant in
    let inside : c.loop-i.i < length N = let e = c.len-i-end.ensures.value in omega arith in
    (other_free S g.met.F.Field.lawful s c.set.ensures.kept c.args.self.now.problem h.problem N c.requires.independent
    c.at-line.result (is_of_other N s.set c.loop-i.i c.at-line.result inside c.at-line.ensures h.entering)
    (is_new c.holds.result c.set.result.now s.set c.at-line.result c.set.ensures.value c.holds.ensures c.if-not-holds.true) h.entering.within).0

pub insert-requires-clause-free : goal.insert-requires-clause-free
insert-requires-clause-free g c =
    let S = g.F.Field.scalars in
    let s = c.loop-i.self in
    let N = c.args.other.now in
    let h = c.loop-i.invariant in
    let inside : c.loop-i.i < length N = let e = c.len-i-end.ensures.value in omega arith in
    (other_free S g.met.F.Field.lawful s c.set.ensures.kept c.args.self.now.problem h.problem N c.requires.independent
    c.at-line.result (is_of_other N s.set c.loop-i.i c.at-line.result inside c.at-line.ensures h.entering)
    (is_new c.holds.result c.set.result.now s.set c.at-line.result c.set.ensures.value c.holds.ensures c.if-not-holds.true) h.entering.within).1

pub loop-i-preserved : goal.loop-i-preserved
loop-i-preserved g c =
    let S = g.F.Field.scalars in
    let N = c.args.other.now in
    let held = c.loop-i.self.set in
    let i = c.loop-i.i in
    let h = c.loop-i.invariant in
    let inside : c.loop-i.i < length N = let e = c.len-i-end.ensures.value in omega arith in
    elim c.if-not-holds.branch [
      | then-not-holds+in_ok-insert w ↦ record {
        problem = ap (λ (s : Chosen). s.problem) w.self-is ∙ w.insert.ensures.problem ∙ h.problem;
        independent = subst⁻¹ (λ (s : Chosen). IsIndependentSet S s.problem s.set) w.self-is w.insert.ensures.independent;
        entering = subst⁻¹ (λ (s : Chosen). IsEntering N s.set (i + 1)) w.self-is
            (one_in N held i c.at-line.result inside c.at-line.ensures h.entering w.insert.new.self.set w.in_ok-insert.ensures.ok.lines);
      }
      | else-not-holds w ↦ record {
        problem = ap (λ (s : Chosen). s.problem) w.self-is ∙ h.problem;
        independent = subst⁻¹ (λ (s : Chosen). IsIndependentSet S s.problem s.set) w.self-is h.independent;
        entering = subst⁻¹ (λ (s : Chosen). IsEntering N s.set (i + 1)) w.self-is
            (one_there N held i c.at-line.result inside c.at-line.ensures h.entering
            (subst (λ (M : List ℕ). Contains M c.at-line.result) c.set.ensures.value (c.holds.ensures.0 w.if-not-holds.false)));
      }
    ]

pub returns-clause-set : goal.returns-clause-set
returns-clause-set g c =
    let h = c.loop-i.invariant in
    let e = c.len-i-end.ensures.value in
    all_in c.args.other.now c.loop-i.self.set c.loop-i.i c.requires.independent.line_set.increasing h.independent.line_set.increasing (omega arith) h.entering
