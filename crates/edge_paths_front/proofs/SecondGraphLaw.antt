-- The second graph with its names and classes is a second graph, and what its families say of the graph.
use Rattle.std.proofs.Common.{◌≡◌, ℕ, ◌+◌, ◌<◌, List, map, length, sym, ap, ◌∙◌, subst, arith, Bool, is_some}
use Rattle.std.proofs.Math.Decide.{ℕ_discrete}
use Rattle.std.specs.Prelude.{None, All, IfOk, Result, Ok, Err, slice_index_or}
use Rattle.std.proofs.lemmas.List.{get_or-map, length-map}
use Rattle.vector_spaces.proofs.Members.{In, all-In}
use Rattle.vector_spaces.proofs.Distinct.{IsDistinct}
use Rattle.graph_theory.specs.Numbers.{numbers_from}
use Rattle.graph_theory.specs.Walks.{edge_at}
use Rattle.graph_theory.proofs.Numbers.{numbers_at, numbers_length}
use Rattle.path_theory.specs.Classes.{class_of, is_terminal, number_of}
use Rattle.path_theory.specs.Families.{path_vertices, IsPathFamily, IsLargestPathFamily}
use Rattle.path_theory.proofs.Families.{family_as_lists, family_as_pairs}
use Rattle.graph_core.specs.NamedGraphs.{NamedGraph}
use Rattle.edge_path_theory.specs.Darts.{tail, IsEdgePathFamily, IsLargestEdgePathFamily}
use Rattle.edge_path_theory.specs.SecondGraph.{IsSecondGraph, second_edges}
use Rattle.edge_path_theory.specs.Exits.{dart_paths}
use Rattle.edge_path_theory.proofs.SecondEdges.{second_edges_are}
use Rattle.edge_path_theory.proofs.EdgePathsLaw.{darts_as_lists, darts_as_pairs, darts_of_family, family_of_darts, largest_darts, edge_path_sizes}
use Rattle.edge_paths_front.specs.Replies.{darts_along, first_dart, AreInOrder, AreOrderedDarts}
use Rattle.edge_paths_front.specs.SecondGraphs.{class_left, darts, second_graph}
use Rattle.edge_paths_front.proofs.OtherClasses.{path_below, family_over, largest_over}
use Rattle.edge_paths_front.proofs.ReplyLaw.{IsAnswer, answer, found_begin, found_differ}

module _ (g : NamedGraph) where
  abbrev m : ℕ
  m = length g.ends

  abbrev ends : ℕ → ℕ × ℕ
  ends = edge_at g.ends

  abbrev terminal : ℕ → Bool
  terminal = is_terminal g.classes

  abbrev class : ℕ → ℕ
  class = class_of g.classes

  abbrev E : List (ℕ × ℕ)
  E = second_edges m ends terminal

  -- the terminals and classes of the second graph, as it has them, and by the tails of darts
  abbrev pub own_terminal : ℕ → Bool
  own_terminal = is_terminal (second_graph g).classes

  abbrev pub own_class : ℕ → ℕ
  own_class = class_of (second_graph g).classes

  abbrev left : ℕ → Bool
  left d = terminal (tail ends d)

  abbrev kind : ℕ → ℕ
  kind d = class (tail ends d)

  pub second : IsSecondGraph m ends terminal E
  second = second_edges_are ends terminal m

  pub class_at : (d : ℕ) → d < m + m → slice_index_or (map (class_left g) (darts m)) d None ≡ class_left g d
  class_at d l = get_or-map (class_left g) (numbers_from 0 (m + m)) d 0 None (let e = numbers_length 0 (m + m) in omega arith)
      ∙ ap (class_left g) (numbers_at 0 (m + m) d 0 l ∙ none)
    where
      none : 0 + d ≡ d
      none = omega arith

  same : (d : ℕ) → d < m + m → own_terminal d ≡ left d
  same d l = ap is_some (class_at d l)

  alike : (d : ℕ) → d < m + m → own_class d ≡ kind d
  alike d l = ap number_of (class_at d l)

  by_tails : (paths : List (List ℕ)) → IsPathFamily E own_terminal own_class paths → IsPathFamily E left kind paths
  by_tails paths h = family_over E (m + m) second.below own_terminal left own_class kind same alike paths h

  largest_by_tails : (paths : List (List ℕ)) → IsLargestPathFamily E own_terminal own_class paths → IsLargestPathFamily E left kind paths
  largest_by_tails paths h = largest_over E (m + m) second.below own_terminal left own_class kind same alike paths h

  -- the paths are lists of darts, none of them empty
  pub paths_are_darts : (paths : List (List ℕ)) → IsPathFamily E own_terminal own_class paths → (vs : List ℕ) → In vs paths →
      (0 < length vs) × ((d : ℕ) → In d vs → d < m + m)
  paths_are_darts paths h vs i = let r = h.each vs i in subst (λ z. (0 < length z) × ((d : ℕ) → In d z → d < m + m)) (sym r.1)
      (omega arith, path_below E (m + m) second.below own_terminal own_class r.0 r.2)

  pub begin : (paths : List (List ℕ)) → IsPathFamily E own_terminal own_class paths → (ds : List ℕ) → In ds (map (darts_along ends) paths) →
      (0 < length ds) × (first_dart ds < m + m)
  begin paths h = found_begin m ends terminal class E second paths (by_tails paths h)

  pub differ : (paths : List (List ℕ)) → IsPathFamily E own_terminal own_class paths →
      IsDistinct (map first_dart (map (darts_along ends) paths))
  differ paths h = found_differ m ends terminal class E second paths (by_tails paths h)

  pub answer_is : (paths Rs : List (List ℕ)) → IsPathFamily E own_terminal own_class paths →
      AreInOrder ends (map (darts_along ends) paths) Rs → IsAnswer m ends terminal class E second paths Rs
  answer_is paths Rs h o = answer m ends terminal class E second paths Rs (by_tails paths h) o

  pub largest_answer : (paths Rs : List (List ℕ)) → IsPathFamily E own_terminal own_class paths →
      AreInOrder ends (map (darts_along ends) paths) Rs → IsLargestPathFamily E own_terminal own_class paths →
      IsLargestEdgePathFamily m ends terminal class Rs
  largest_answer paths Rs h o k = let a = answer_is paths Rs h o in
      largest_darts m ends terminal class (λ s t. ℕ_discrete (class s) (class t)) E second paths Rs
      (largest_by_tails paths k) a.family a.number

  pub back : (paths : List (List ℕ)) → IsPathFamily E own_terminal own_class paths →
      (others : List (List ℕ)) × IsEdgePathFamily m ends terminal class others × (length others ≡ length paths)
  back paths h = let p = family_as_pairs E left kind paths (by_tails paths h) in
      let d = darts_of_family m ends terminal class (λ s t. ℕ_discrete (class s) (class t)) E second p.0 p.2 in (
        map path_vertices (dart_paths ends p.0),
        darts_as_lists m ends terminal class (dart_paths ends p.0) d.0,
        length-map (dart_paths ends p.0) path_vertices ∙ d.1 ∙ sym (length-map p.0 path_vertices) ∙ sym (ap length p.1),
      )

  pub forth : (others : List (List ℕ)) → IsEdgePathFamily m ends terminal class others →
      (paths : List (List ℕ)) × IsPathFamily E own_terminal own_class paths × (length paths ≡ length others)
  forth others h = let p = darts_as_pairs m ends terminal class others h in
      let d = family_of_darts m ends terminal class (λ s t. ℕ_discrete (class s) (class t)) E second p.0 p.2 in (
        map path_vertices d.0,
        family_over E (m + m) second.below left own_terminal kind own_class (λ k l. sym (same k l)) (λ k l. sym (alike k l))
            (map path_vertices d.0) (family_as_lists E left kind d.0 d.1),
        length-map d.0 path_vertices ∙ d.2 ∙ sym (length-map p.0 path_vertices) ∙ sym (ap length p.1),
      )

  pub sizes : (paths others : List (List ℕ)) → IsLargestPathFamily E own_terminal own_class paths →
      IsLargestEdgePathFamily m ends terminal class others → length paths ≡ length others
  sizes paths others h k = edge_path_sizes m ends terminal class (λ s t. ℕ_discrete (class s) (class t)) E second paths others
      (largest_by_tails paths h) k

on_ok : {X Z : Type 0} (r : Result X Z) (P Q : X → Type 0) → ((x : X) → P x → Q x) → IfOk r P → IfOk r Q
on_ok (Ok x) P Q h p = h x p
on_ok (Err z) P Q h p = tt

-- the same of what is found, and of what a call answers
module _ (g : NamedGraph) (paths found : List (List ℕ)) (h : IsPathFamily (second_edges (length g.ends) (edge_at g.ends)
    (is_terminal g.classes)) (own_terminal g) (own_class g) paths) where
  pub paths_some : All (λ vs. 0 < length vs) paths
  paths_some = all-In (λ vs. 0 < length vs) paths (λ vs i. (paths_are_darts g paths h vs i).0)

  pub paths_within : All (λ vs. All (λ d. d < length g.ends + length g.ends) vs) paths
  paths_within = all-In (λ vs. All (λ d. d < length g.ends + length g.ends) vs) paths
      (λ vs i. all-In (λ d. d < length g.ends + length g.ends) vs (paths_are_darts g paths h vs i).1)

  module _ (is : found ≡ map (darts_along (edge_at g.ends)) paths) where
    pub found_some : All (λ ds. 0 < length ds) found
    found_some = all-In (λ ds. 0 < length ds) found (λ ds i. (begin g paths h ds (subst (In ds) is i)).0)

    pub found_within : All (λ ds. first_dart ds < length g.ends + length g.ends) found
    found_within = all-In (λ ds. first_dart ds < length g.ends + length g.ends) found (λ ds i. (begin g paths h ds (subst (In ds) is i)).1)

    pub found_apart : IsDistinct (map first_dart found)
    found_apart = subst (λ z. IsDistinct (map first_dart z)) (sym is) (differ g paths h)

    module _ {Z : Type 0} (r : Result (List (List ℕ)) Z) (order : IfOk r (AreInOrder (edge_at g.ends) found)) where
      in_order : IfOk r (AreInOrder (edge_at g.ends) (map (darts_along (edge_at g.ends)) paths))
      in_order = subst (λ z. IfOk r (AreInOrder (edge_at g.ends) z)) is order

      pub answered_family : IfOk r (IsEdgePathFamily (length g.ends) (edge_at g.ends) (is_terminal g.classes) (class_of g.classes))
      answered_family = on_ok r _ _ (λ Rs o. (answer_is g paths Rs h o).family) in_order

      pub answered_number : IfOk r (λ lists. length lists ≡ length paths)
      answered_number = on_ok r _ _ (λ Rs o. (answer_is g paths Rs h o).number) in_order

      pub answered_ordered : IfOk r (AreOrderedDarts (edge_at g.ends))
      answered_ordered = on_ok r _ _ (λ Rs o. (answer_is g paths Rs h o).ordered) in_order

      pub answered_largest : IsLargestPathFamily (second_edges (length g.ends) (edge_at g.ends) (is_terminal g.classes)) (own_terminal g)
          (own_class g) paths →
          IfOk r (IsLargestEdgePathFamily (length g.ends) (edge_at g.ends) (is_terminal g.classes) (class_of g.classes))
      answered_largest k = on_ok r _ _ (λ Rs o. largest_answer g paths Rs h o k) in_order
