use Rattle.std.proofs.Common.{◌≡◌, suc, [], ◌∷◌, map, refl, sym, ◌∙◌, subst, arith}
use Rattle.std.proofs.lemmas.List.Elements.{All-nil, All-cons}
use Rattle.linear_algebra.specs.Spans.{InSpan}
use Rattle.linear_algebra.specs.Vectors.{IsVector}
use Rattle.classes.specs.Lasting.{IsLasting}
use Rattle.classes.specs.declared.pacing.Paced.TheVariants.{Moved, Settled}
use Rattle.classes.proofs.LastTies.{last_does_not_settle, last_ends, last_goes_on, last_misses}
use Rattle.classes.proofs.PacedTies.{IsWalk, found_inside, found_outside, pace_told, walk_comes_nearer, walk_goes_on}
use Rattle.classes.proofs.lasting.last_exchanges.Goals as goal
use Rattle.field_core.proofs.Values.{vector_of_values}
use Rattle.matching_state.specs.Missing.{Misses}
use Rattle.parity_lines.specs.Problems.{ParityProblem, vectors_at}
use Rattle.parity_theory.proofs.Nearness.{left_over}

pub loop-keep-init : goal.loop-keep-init
loop-keep-init g c =
    let S = g.F.Field.scalars in
    let F = g.met.F.Field.lawful in
    let p = c.args.state.now.problem in
    let M = c.args.state.now.set in
    let P = rw c.problem-problem.ensures at c.len-lines.ensures.problem in
    let o = map g.F.Field.number c.args.o.now in
    let in_o = vector_of_values S g.F.Field.number g.met.F.Field.is_scalar c.args.o.now p.dimension c.requires.long in
    record {
      problem = refl;
      as_long = refl;
      walk = record {
        problem = P;
        labelled = c.requires.labels;
        long = c.requires.vector_long;
        keeps = All-cons (IsVector S p.dimension) o [] in_o (All-nil (IsVector S p.dimension));
        missed = last_misses S F p P c.args.labels.now c.args.target.now o (map g.F.Field.number c.args.vector.now) M
            c.set-set.ensures.independent.line_set.within in_o (c.requires.lasting F);
        set = c.set-set.ensures.independent;
        target = c.requires.target;
      };
      lasting = c.requires.lasting;
    }

pub step_in_parts-requires-clause-missed : goal.step_in_parts-requires-clause-missed
step_in_parts-requires-clause-missed g c = rw c.in_ok-keep.ensures c.loop-keep.invariant.walk.missed

pub unreachable-requires : goal.unreachable-requires
unreachable-requires g c =
    let S = g.F.Field.scalars in
    let F = g.met.F.Field.lawful in
    let q = c.loop-keep.state.problem in
    let N = c.loop-keep.state.set in
    let T = c.args.target.now in
    let h = c.loop-keep.invariant in
    let o = map g.F.Field.number c.args.o.now in
    let e = c.in_ok-step_in_parts.ensures in
    let told = pace_told S q c.args.labels.now c.in_ok-keep.keep (o ∷ []) T N c.step_in_parts.new.state.set c.in_ok-step_in_parts.field-0
    Settled c.in_ok-keep.ensures c.in-Settled.is e.pace e.kept in
    last_does_not_settle S F q c.args.labels.now o (map g.F.Field.number c.args.vector.now) c.args.vector.now T N h.walk
    (h.lasting F) told.0.1

pub returns-then-is_none-clause-walk : goal.returns-then-is_none-clause-walk
returns-then-is_none-clause-walk g c =
    let S = g.F.Field.scalars in
    let F = g.met.F.Field.lawful in
    let q = c.loop-keep.state.problem in
    let r = c.step_in_parts.new.state.problem in
    let N = c.loop-keep.state.set in
    let L = c.step_in_parts.new.state.set in
    let T = c.args.target.now in
    let h = c.loop-keep.invariant in
    let o = map g.F.Field.number c.args.o.now in
    let v = map g.F.Field.number c.args.vector.now in
    let e = c.in_ok-step_in_parts.ensures in
    let told = pace_told S q c.args.labels.now c.in_ok-keep.keep (o ∷ []) T N L c.in_ok-step_in_parts.field-0 Moved
    c.in_ok-keep.ensures c.in-Moved.is e.pace e.kept in
    subst (λ p. Misses S p L (o ∷ v ∷ [])) h.problem
    (last_ends S F q c.args.labels.now o v c.args.vector.now T N h.walk (h.lasting F) L told.0 told.1
    (subst (λ (p : ParityProblem). ¬ (InSpan S p.dimension (vectors_at p L) v)) e.problem
    (found_outside S r.dimension (vectors_at r L) v c.in_ok-coordinates.field-0 c.if-is_none.ensures c.in_ok-coordinates.ensures)))

pub loop-keep-smaller : goal.loop-keep-smaller
loop-keep-smaller g c =
    let S = g.F.Field.scalars in
    let q = c.loop-keep.state.problem in
    let N = c.loop-keep.state.set in
    let L = c.step_in_parts.new.state.set in
    let T = c.args.target.now in
    let labels = c.args.labels.now in
    let o = map g.F.Field.number c.args.o.now in
    let e = c.in_ok-step_in_parts.ensures in
    let told = pace_told S q labels c.in_ok-keep.keep (o ∷ []) T N L c.in_ok-step_in_parts.field-0 Moved
    c.in_ok-keep.ensures c.in-Moved.is e.pace e.kept in
    let nearer : suc (left_over L T) ≡ left_over N T = walk_comes_nearer S g.met.F.Field.lawful q labels (o ∷ []) c.args.vector.now T N
    c.loop-keep.invariant.walk L told.0 told.1 in
    omega arith

pub loop-keep-preserved : goal.loop-keep-preserved
loop-keep-preserved g c =
    let S = g.F.Field.scalars in
    let q = c.loop-keep.state.problem in
    let r = c.step_in_parts.new.state.problem in
    let N = c.loop-keep.state.set in
    let L = c.step_in_parts.new.state.set in
    let T = c.args.target.now in
    let labels = c.args.labels.now in
    let h = c.loop-keep.invariant in
    let o = map g.F.Field.number c.args.o.now in
    let v = map g.F.Field.number c.args.vector.now in
    let e = c.in_ok-step_in_parts.ensures in
    let told = pace_told S q labels c.in_ok-keep.keep (o ∷ []) T N L c.in_ok-step_in_parts.field-0 Moved c.in_ok-keep.ensures
    c.in-Moved.is e.pace e.kept in
    let spanned = subst (λ (p : ParityProblem). InSpan S p.dimension (vectors_at p L) v) e.problem
    (found_inside S r.dimension (vectors_at r L) v c.in_ok-coordinates.field-0 c.if-is_none.ensures c.in_ok-coordinates.ensures) in
    record {
      problem = e.problem ∙ h.problem;
      as_long = e.kept.as_long ∙ h.as_long;
      walk = subst (λ p. IsWalk S p labels (o ∷ []) c.args.vector.now T L) (sym e.problem)
          (walk_goes_on S g.met.F.Field.lawful q labels (o ∷ []) c.args.vector.now T N h.walk L told.0 told.1);
      lasting = λ G. subst (λ p. IsLasting S G p labels T o v L) (sym e.problem)
          (last_goes_on S G q labels o v c.args.vector.now T N h.walk (h.lasting G) L told.0 told.1 spanned);
    }
