-- Edge-disjoint paths: the classes of the second graph, and the darts of a family.
use Rattle.std.proofs.Common.{◌≡◌, ℕ, ◌+◌, ◌<◌, List, length, map, All, Bool, None, Some, sym, ◌∙◌, subst, arith}
use Rattle.std.proofs.Math.Decide.{dec_lt}
use Rattle.std.proofs.lemmas.List.{get_or_past, length-map}
use Rattle.edge_path_theory.specs.Darts.{IsEdgePathFamily, tail}
use Rattle.edge_paths_front.proofs.SecondGraphLaw.{class_at}
use Rattle.edge_paths_front.specs.SecondGraphs.{class_left, darts, second_graph}
use Rattle.graph_core.specs.NamedGraphs.{NamedGraph}
use Rattle.graph_theory.proofs.Numbers.{numbers_length}
use Rattle.graph_theory.specs.Walks.{edge_at}
use Rattle.parity_program.specs.Shown.{HasFewClasses}
use Rattle.vector_spaces.proofs.Members.{In, all-In}

-- a dart has the class of the vertex that it leaves
pub second_classes : (g : NamedGraph) → HasFewClasses g → HasFewClasses (second_graph g)
second_classes g few d c at =
    let m : ℕ = length g.ends in
    let long = numbers_length 0 (m + m) in
    let many = length-map (darts m) (class_left g) in
    elim (dec_lt d (m + m)) [
      | yes l ↦ few (tail (edge_at g.ends) d) c (sym (class_at g d l) ∙ at)
      | no n ↦
          let none : None ≡ Some c = sym (get_or_past (map (class_left g) (darts m)) d None (omega (arith, n, long, many))) ∙ at in
          absurd (cc (none))
    ]

pub darts_within : {C : Type 0} (m : ℕ) (ends : ℕ → ℕ × ℕ) (terminal : ℕ → Bool) (class : ℕ → C) (paths : List (List ℕ))
    → IsEdgePathFamily m ends terminal class paths → All (All (λ d. d < m + m)) paths
darts_within m ends terminal class paths family =
    all-In (All (λ d. d < m + m)) paths
    (λ ds i. let path = family.each ds i in all-In (λ d. d < m + m) ds (λ d j. path.2.below d (subst (In d) path.1 j)))
