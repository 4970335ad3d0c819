use Rattle.std.proofs.Common.{◌≡◌, ◌+◌, ◌-◌, suc, length, map}
use Rattle.graph_theory.specs.Numbers.{numbers_from}
use Rattle.edge_path_theory.specs.SecondGraph.{reverses}
use Rattle.edge_paths_front.specs.SecondGraphs.{with_edges}
use Rattle.edge_paths_front.proofs.second_graph.put_reverses.Given as goal

abbrev pub invariant-loop-edge : goal.invariant-loop-edge
invariant-loop-edge l = with_edges l.second (map (λ e. (e + e, suc (e + e))) (numbers_from l.edge (length l.graph.ends - l.edge)))
    ≡ with_edges l.initial.second (reverses (length l.graph.ends))
