use Rattle.std.proofs.Common.{◌≡◌, ◌∷◌, ℕ, List, take, get_or}
use Rattle.graph_theory.specs.Paths.{LeadThrough}
use Rattle.graph_theory.specs.Walks.{edge_at}
use Rattle.s_paths_front.proofs.paths.vertices_of.Given as goal

abbrev pub invariant-loop-i : goal.invariant-loop-i
invariant-loop-i l = (others : List ℕ) → LeadThrough (edge_at l.graph.ends) l.from l.path others
    → (l.vertices ≡ l.from ∷ take l.i others) × (l.at ≡ get_or (l.from ∷ others) l.i 0)
