use Rattle.std.proofs.Common.{map, length, sym, ap, ◌∙◌, arith, is_some}
use Rattle.std.proofs.lemmas.Bool.{true≢false}
use Rattle.graph_theory.specs.Walks.{edge_at}
use Rattle.graph_theory.proofs.Walks.{forest_of_grown, walk_of_connected}
use Rattle.path_theory.specs.Classes.{is_terminal}
use Rattle.s_paths_front.proofs.TreePaths.{path_within, path_up, none_next}
use Rattle.s_paths_front.proofs.paths.path_from.Goals as goal
use Rattle.s_paths_front.proofs.paths.path_from.Goals.{then-is_some+in_ok-edges+in_default, else-is_some}

pub loop-to-init : goal.loop-to-init
loop-to-init c = λ t l m. absurd (omega arith)

pub path_in_tree-requires-clause-forest : goal.path_in_tree-requires-clause-forest
path_in_tree-requires-clause-forest c = forest_of_grown (map (edge_at c.args.graph.now.ends) c.args.forest.now) c.requires.forest.forest

pub vertices_of-requires : goal.vertices_of-requires
vertices_of-requires c = path_within
    (edge_at c.args.graph.now.ends) c.args.forest.now c.args.from c.loop-to.to c.in_ok-edges.field-0 c.in-Some.edges c.in-Some.is
    c.in_ok-edges.ensures.path (length c.args.graph.now.ends) c.requires.edges

pub returns-in-Some-clause-path : goal.returns-in-Some-clause-path
returns-in-Some-clause-path c = path_up
    (edge_at c.args.graph.now.ends) c.args.forest.now c.args.from c.loop-to.to c.in_ok-edges.field-0 c.in-Some.edges
    c.in-Some.is c.in_ok-edges.ensures.path (is_terminal c.args.graph.now.classes) c.in_ok-vertices_of.field-0 (omega arith)
    (ap is_some (sym c.class.ensures) ∙ sym c.is_some.ensures ∙ c.if-is_some.true) c.in_ok-vertices_of.ensures

pub loop-to-preserved : goal.loop-to-preserved
loop-to-preserved c = none_next (is_terminal c.args.graph.now.classes)
    (map (edge_at c.args.graph.now.ends) c.args.forest.now) c.args.from c.loop-to.to
    c.loop-to.invariant (elim c.if-is_some.branch [
      | then-is_some+in_ok-edges+in_default w ↦ λ b k. w.in_ok-edges.ensures.none.0 w.in_default.is
          (walk_of_connected (map (edge_at c.args.graph.now.ends) c.args.forest.now) c.args.from c.loop-to.to k)
      | else-is_some w ↦ λ b k. true≢false (sym b ∙ ap is_some (sym c.class.ensures) ∙ sym c.is_some.ensures ∙ w.if-is_some.false)
    ])
