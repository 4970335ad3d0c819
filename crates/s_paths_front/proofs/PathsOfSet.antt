-- Paths of the edges of an independent set, no fewer than second terminals.
use Rattle.std.proofs.Common.{◌≡◌, ℕ, ◌+◌, ◌-◌, ◌≤◌, ◌<◌, List, All, length, map, get_or, sym, ap, subst, arith, Bool}
use Rattle.std.specs.Prelude.{None, Some, Result, Ok, Err, IfOk, slice_index_or}
use Rattle.std.proofs.lemmas.List.{length-map}
use Rattle.linear_algebra.specs.Scalars.{Scalars, IsField}
use Rattle.parity_lines.specs.LineSets.{IsIndependentSet, IsLargest}
use Rattle.parity_lines.specs.Problems.{ParityProblem}
use Rattle.graph_core.specs.NamedGraphs.{NamedGraph, IsNamedGraph}
use Rattle.graph_theory.specs.Counts.{count}
use Rattle.graph_theory.specs.Walks.{edge_at}
use Rattle.graph_problems.specs.PathLines.{path_line, paths_problem, IsPathsSetting}
use Rattle.graph_problems.proofs.PathSets.{grown_forest_of_set, family_of_found, largest_family}
use Rattle.path_theory.specs.Classes.{class_of, is_terminal}
use Rattle.path_theory.specs.Families.{path_vertices, IsPathFamily, IsLargestPathFamily}
use Rattle.path_theory.specs.Terminals.{GrownTerminalForest, IsOffset, free_components, second_terminals}
use Rattle.path_theory.proofs.Families.{family_as_lists, family_as_pairs}
use Rattle.small_fields.specs.Laws.ModularField.{modular_field}
use Rattle.small_fields.specs.Laws.Primes.{prime_251}
use Rattle.small_fields.specs.ScalarsOf.{scalars_of}
use Rattle.s_paths_front.proofs.Setting.{paths_setting}
use Rattle.s_paths_front.proofs.Sizes.{offset_of}

abbrev problem_251 : NamedGraph → ParityProblem
problem_251 g = paths_problem (scalars_of 251) 250 (length g.names) (is_terminal g.classes) (class_of g.classes) g.ends

on_both : {X Z : Type 0} (r : Result X Z) (P Q R : X → Type 0) → ((x : X) → P x → Q x → R x) → IfOk r P → IfOk r Q → IfOk r R
on_both (Ok x) P Q R h p q = h x p q
on_both (Err z) P Q R h p q = tt

module _ (S : Scalars) (F : IsField S) (minus n : ℕ) (terminal : ℕ → Bool) (class : ℕ → ℕ) (E : List (ℕ × ℕ))
    (given : IsPathsSetting S minus n terminal class E) (set : List ℕ)
    (independent : IsIndependentSet S (paths_problem S minus n terminal class E) set) where
  pub edges_within : All (λ e. e < length E) set
  edges_within = λ k d l. subst (λ z. get_or set k d < z) (length-map E (path_line S minus n terminal class))
      (independent.line_set.within k d l)

  pub forest_of_set : GrownTerminalForest terminal class (map (edge_at E) set)
  forest_of_set = grown_forest_of_set S F minus n terminal class E given set independent

  module _ (paths : List (List ℕ)) (f : IsPathFamily (map (edge_at E) set) terminal class paths)
      (each : second_terminals n terminal (map (edge_at E) set) ≤ length paths) where
    found : (offset : ℕ) → IsOffset n terminal E offset → IsPathFamily E terminal class paths × (length set ≤ length paths + offset)
    found offset total = let q = family_as_pairs (map (edge_at E) set) terminal class paths f in
        let l = ap length q.1 in let m = length-map q.0 path_vertices in
        let r = family_of_found S F minus n terminal class E given offset total set independent q.0 q.2 (omega arith) in
        (subst (IsPathFamily E terminal class) (sym q.1) (family_as_lists E terminal class q.0 r.0), (let k = r.1 in omega arith))

    any : IsPathFamily E terminal class paths × (length set ≤ length paths + (n - count n terminal - free_components n terminal E))
    any = found (n - count n terminal - free_components n terminal E) (offset_of n terminal E)

    pub found_enough : (offset : ℕ) → IsOffset n terminal E offset → length set ≤ length paths + offset
    found_enough offset total = (found offset total).1

    pub found_in_graph : IsPathFamily E terminal class paths
    found_in_graph = any.0

    pub found_largest : IsLargest S (paths_problem S minus n terminal class E) set → IsLargestPathFamily E terminal class paths
    found_largest h = largest_family S F minus n terminal class E given (n - count n terminal - free_components n terminal E)
        (offset_of n terminal E)
        set paths h any.0 any.1

-- the same of a graph over 251 elements, and of what a call answers
module _ (g : NamedGraph) (named : IsNamedGraph g) (small : (v c : ℕ) → slice_index_or g.classes v None ≡ Some c → c < 251)
    (set edges : List ℕ)
    (same : edges ≡ set) (independent : IsIndependentSet (scalars_of 251) (problem_251 g) set) where
  abbrev terminal : ℕ → Bool
  terminal = is_terminal g.classes

  abbrev class : ℕ → ℕ
  class = class_of g.classes

  abbrev setting : IsPathsSetting (scalars_of 251) 250 (length g.names) terminal class g.ends
  setting = paths_setting g named small

  of_edges : IsIndependentSet (scalars_of 251) (problem_251 g) edges
  of_edges = subst (IsIndependentSet (scalars_of 251) (problem_251 g)) (sym same) independent

  pub forest_in_graph : GrownTerminalForest terminal class (map (edge_at g.ends) edges)
  forest_in_graph = forest_of_set (scalars_of 251) (modular_field 251 prime_251) 250
      (length g.names) terminal class g.ends setting edges of_edges

  pub edges_in_graph : All (λ e. e < length g.ends) edges
  edges_in_graph = edges_within (scalars_of 251) (modular_field 251 prime_251) 250
      (length g.names) terminal class g.ends setting edges of_edges

  module _ {Z : Type 0} (r : Result (List (List ℕ)) Z) (family : IfOk r (IsPathFamily (map (edge_at g.ends) edges) terminal class))
      (each : IfOk r (λ paths. second_terminals (length g.names) terminal (map (edge_at g.ends) edges) ≤ length paths)) where
    pub answered_family : IfOk r (IsPathFamily g.ends terminal class)
    answered_family = on_both r _ _ _ (found_in_graph (scalars_of 251) (modular_field 251 prime_251) 250
        (length g.names) terminal class g.ends setting edges of_edges)
        family each

    pub answered_enough : (offset : ℕ) → IsOffset (length g.names) terminal g.ends offset
        → IfOk r (λ paths. length set ≤ length paths + offset)
    answered_enough offset total = on_both r _ _ _ (λ paths f e. subst (λ z. length z ≤ length paths + offset) same
        (found_enough (scalars_of 251) (modular_field 251 prime_251) 250
        (length g.names) terminal class g.ends setting edges of_edges paths f e offset total))
        family each

    pub answered_largest : IsLargest (scalars_of 251) (problem_251 g) set → IfOk r (IsLargestPathFamily g.ends terminal class)
    answered_largest h = on_both r _ _ _ (λ paths f e. found_largest (scalars_of 251) (modular_field 251 prime_251) 250
        (length g.names) terminal class g.ends
        setting edges of_edges paths f e (subst (IsLargest (scalars_of 251) (problem_251 g)) (sym same) h)) family each
