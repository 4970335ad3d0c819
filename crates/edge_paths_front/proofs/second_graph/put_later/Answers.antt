use Rattle.std.proofs.Common.{ℕ, ◌+◌, ◌-◌, length, sym, subst, ◌∙◌, ◌≡◌, arith}
use Rattle.graph_theory.specs.Numbers.{numbers_from}
use Rattle.graph_theory.specs.Walks.{edge_at}
use Rattle.path_theory.specs.Classes.{is_terminal}
use Rattle.edge_path_theory.specs.SecondGraph.{later}
use Rattle.edge_paths_front.specs.SecondGraphs.{with_edges}
use Rattle.edge_paths_front.proofs.EdgeSteps.{from_dart, later_put, later_passed}
use Rattle.edge_paths_front.proofs.second_graph.put_later.Goals as goal
use Rattle.edge_paths_front.proofs.second_graph.put_later.Goals.{then-joins+in_ok-edge, else-joins}

pub loop-other-preserved : goal.loop-other-preserved
loop-other-preserved c =
    let ends = edge_at c.args.graph.now.ends in
    let terminal = is_terminal c.args.graph.now.classes in
    let d = c.args.dart in
    let x = c.loop-other.other in
    let n : ℕ = length c.args.graph.now.ends + length c.args.graph.now.ends in
    let all = later ends terminal d (n - (d + 1)) in
    elim c.if-joins.branch [
      | then-joins+in_ok-edge w ↦ later_put ends terminal c.loop-other.second c.args.second.now c.if-joins.second d x n all (omega arith)
          (sym c.joins.ensures ∙ w.if-joins.true) c.loop-other.invariant (w.second-is ∙ w.in_ok-edge.ensures.ok)
      | else-joins w ↦ subst (λ g. with_edges g (from_dart ends terminal d (numbers_from (x + 1) (n - (x + 1))))
          ≡ with_edges c.args.second.now all)
          (sym w.second-is) (later_passed ends terminal c.loop-other.second c.args.second.now d x n all (omega arith)
          (sym c.joins.ensures ∙ w.if-joins.false) c.loop-other.invariant)
    ]
