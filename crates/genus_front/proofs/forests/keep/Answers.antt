use Rattle.std.proofs.Common.{ℕ, map, sym, subst}
use Rattle.std.proofs.lemmas.Result.{on_ok_weaker}
use Rattle.graph_theory.specs.Walks.{Walk, edge_at}
use Rattle.graph_theory.proofs.Walks.{forest_of_grown}
use Rattle.genus_front.specs.SpanningForests.{IsSpanningForest}
use Rattle.genus_front.proofs.SpanningForests.{forest_kept, forest_more}
use Rattle.genus_front.proofs.forests.keep.Goals as goal

pub path_in_tree-requires-clause-forest : goal.path_in_tree-requires-clause-forest
path_in_tree-requires-clause-forest c = forest_of_grown (map (edge_at c.args.graph.now.ends) c.args.forest.now) c.requires.forest

pub returns-in-None : goal.returns-in-None
returns-in-None c = on_ok_weaker c.push.result (λ q K F. subst (IsSpanningForest (edge_at c.args.graph.now.ends) _) (sym q)
    (forest_more (edge_at c.args.graph.now.ends) K c.args.forest.now c.args.edge
    (subst (λ (p : ℕ × ℕ). ¬ (Walk (map (edge_at c.args.graph.now.ends) c.args.forest.now) p.0 p.1)) c.ends-first.ensures.value
    (c.in_ok-path_in_tree.ensures.none.0 c.in-None.is)) F)) c.push.ensures.ok

pub returns-in-Some : goal.returns-in-Some
returns-in-Some c = λ K F. forest_kept (edge_at c.args.graph.now.ends) K c.args.forest.now c.args.edge
    (subst (λ (p : ℕ × ℕ). ¬ (¬ (Walk (map (edge_at c.args.graph.now.ends) c.args.forest.now) p.0 p.1))) c.ends-first.ensures.value
    (λ n. cc (c.in_ok-path_in_tree.ensures.none.1 n, c.in-Some.is))) F
