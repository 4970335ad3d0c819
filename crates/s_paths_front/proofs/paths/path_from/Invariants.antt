use Rattle.std.proofs.Common.{◌≡◌, ◌<◌, ℕ, map, true}
use Rattle.graph_theory.specs.Labels.{Connected}
use Rattle.graph_theory.specs.Walks.{edge_at}
use Rattle.path_theory.specs.Classes.{is_terminal}
use Rattle.s_paths_front.proofs.paths.path_from.Given as goal

abbrev pub invariant-loop-to : goal.invariant-loop-to
invariant-loop-to l = (t : ℕ) → l.from < t → t < l.to → is_terminal l.graph.classes t ≡ true → ¬ (Connected
    (map (edge_at l.graph.ends) l.forest) l.from t)
