use Rattle.std.proofs.Common.{◌≡◌, ◌<◌, ℕ, length, map, sym, ap, ◌∙◌, subst, arith, is_some, true}
use Rattle.std.specs.Prelude.{◌+◌, IfNone, IfSome}
use Rattle.std.proofs.lemmas.Bool.{true≢false}
use Rattle.graph_theory.specs.Labels.{Connected}
use Rattle.graph_theory.specs.Walks.{edge_at}
use Rattle.path_theory.specs.Classes.{class_of, is_terminal}
use Rattle.s_paths_front.specs.PathsUp.{IsPathUp}
use Rattle.s_paths_front.proofs.FoundPaths.{ArePathsFrom, found_start, found_skip, found_push, found_family, found_ordered, found_each}
use Rattle.s_paths_front.proofs.paths.paths_in.Goals as goal
use Rattle.s_paths_front.proofs.paths.paths_in.Goals.{then-is_some+in_ok-path+in-Some+in_ok-push, then-is_some+in_ok-path+in_default, else-is_some}

pub loop-from-init : goal.loop-from-init
loop-from-init c = subst (ArePathsFrom (length c.args.graph.now.names) (is_terminal c.args.graph.now.classes)
    (class_of c.args.graph.now.classes) (map (edge_at c.args.graph.now.ends) c.args.forest.now) 0)
    (sym c.new-paths.ensures) (found_start (length c.args.graph.now.names) (is_terminal c.args.graph.now.classes)
    (class_of c.args.graph.now.classes) (map (edge_at c.args.graph.now.ends) c.args.forest.now))

pub loop-from-preserved : goal.loop-from-preserved
loop-from-preserved c = elim c.if-is_some.branch [
  | then-is_some+in_ok-path+in-Some+in_ok-push w ↦ subst (ArePathsFrom (length c.args.graph.now.names)
      (is_terminal c.args.graph.now.classes) (class_of c.args.graph.now.classes) (map (edge_at c.args.graph.now.ends) c.args.forest.now)
      (c.loop-from.from + 1)) (sym (w.paths-is ∙ w.in_ok-push.ensures.ok))
      (found_push (length c.args.graph.now.names) (is_terminal c.args.graph.now.classes) (class_of c.args.graph.now.classes)
      (map (edge_at c.args.graph.now.ends) c.args.forest.now)
      c.requires.forest c.loop-from.from c.loop-from.paths c.loop-from.invariant
      (ap is_some (sym c.class.ensures) ∙ sym c.is_some.ensures ∙ w.if-is_some.true) w.in-Some.path
      (subst (λ o. IfSome o (IsPathUp (is_terminal c.args.graph.now.classes)
      (map (edge_at c.args.graph.now.ends) c.args.forest.now) c.loop-from.from))
      w.in-Some.is w.in_ok-path.ensures.path))
  | then-is_some+in_ok-path+in_default w ↦ subst (ArePathsFrom (length c.args.graph.now.names) (is_terminal c.args.graph.now.classes)
      (class_of c.args.graph.now.classes) (map (edge_at c.args.graph.now.ends) c.args.forest.now)
      (c.loop-from.from + 1)) (sym w.paths-is)
      (found_skip (length c.args.graph.now.names) (is_terminal c.args.graph.now.classes) (class_of c.args.graph.now.classes)
      (map (edge_at c.args.graph.now.ends) c.args.forest.now)
      c.loop-from.from c.loop-from.paths c.loop-from.invariant (λ b.
      subst (λ o. IfNone o ((t : ℕ) → c.loop-from.from < t → t < length c.args.graph.now.names
      → is_terminal c.args.graph.now.classes t ≡ true
      → ¬ (Connected (map (edge_at c.args.graph.now.ends) c.args.forest.now) c.loop-from.from t)))
      w.in_default.is w.in_ok-path.ensures.none))
  | else-is_some w ↦ subst (ArePathsFrom (length c.args.graph.now.names) (is_terminal c.args.graph.now.classes)
      (class_of c.args.graph.now.classes) (map (edge_at c.args.graph.now.ends) c.args.forest.now)
      (c.loop-from.from + 1)) (sym w.paths-is)
      (found_skip (length c.args.graph.now.names) (is_terminal c.args.graph.now.classes) (class_of c.args.graph.now.classes)
      (map (edge_at c.args.graph.now.ends) c.args.forest.now)
      c.loop-from.from c.loop-from.paths c.loop-from.invariant (λ b.
      absurd (true≢false (sym b ∙ ap is_some (sym c.class.ensures) ∙ sym c.is_some.ensures ∙ w.if-is_some.false))))
]

pub returns-clause-family : goal.returns-clause-family
returns-clause-family c = found_family (length c.args.graph.now.names) (is_terminal c.args.graph.now.classes)
    (class_of c.args.graph.now.classes) (map (edge_at c.args.graph.now.ends) c.args.forest.now)
    c.loop-from.from c.loop-from.paths c.loop-from.invariant

pub returns-clause-ordered : goal.returns-clause-ordered
returns-clause-ordered c = found_ordered (length c.args.graph.now.names) (is_terminal c.args.graph.now.classes)
    (class_of c.args.graph.now.classes) (map (edge_at c.args.graph.now.ends) c.args.forest.now)
    c.loop-from.from c.loop-from.paths c.loop-from.invariant

pub returns-clause-each : goal.returns-clause-each
returns-clause-each c = let end : c.loop-from.from ≡ length c.args.graph.now.names = omega arith in
    found_each (length c.args.graph.now.names) (is_terminal c.args.graph.now.classes) (class_of c.args.graph.now.classes)
    (map (edge_at c.args.graph.now.ends) c.args.forest.now) c.loop-from.paths
    (subst (λ k. ArePathsFrom (length c.args.graph.now.names) (is_terminal c.args.graph.now.classes) (class_of c.args.graph.now.classes)
    (map (edge_at c.args.graph.now.ends) c.args.forest.now) k c.loop-from.paths) end c.loop-from.invariant)
