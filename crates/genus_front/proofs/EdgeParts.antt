-- The parts of the edges of a graph that an independent set makes, and what they make.
use Rattle.std.proofs.Common.{◌≡◌, ℕ, ◌+◌, ◌<◌, ◌≤◌, List, All, length, sym, ap, ◌∙◌, subst, arith}
use Rattle.std.proofs.Math.Decide.{ℕ_discrete}
use Rattle.std.proofs.lemmas.List.{length-map}
use Rattle.vector_spaces.proofs.Members.{In-all, In-get_or, all-In}
use Rattle.linear_algebra.specs.Scalars.{Scalars, IsField}
use Rattle.parity_lines.specs.LineSets.{IsIndependentSet}
use Rattle.parity_lines.specs.Problems.{ParityProblem}
use Rattle.graph_theory.specs.Walks.{edge_at}
use Rattle.graph_theory.proofs.Shuffles.{forest_distinct}
use Rattle.graph_core.specs.Adjacency.{AreAdjacentPairs}
use Rattle.edge_lists.specs.Connections.{AreBelow, EndsBelow, IsConnected, one_component}
use Rattle.edge_lists.specs.EdgeNumbers.{edge_numbers}
use Rattle.edge_lists.specs.Occurrences.{count, without}
use Rattle.edge_lists.proofs.Connections.{component_number_connected, forest_components}
use Rattle.edge_lists.proofs.EdgeNumbers.{numbers_all, numbers_below, numbers_single}
use Rattle.edge_lists.proofs.Occurrences.{count-without_in, count-without_out, count_of_distinct, count_of_in, in_of_count, without_passes}
use Rattle.edge_lists.proofs.SameEdges.{same_length}
use Rattle.rotation_theory.specs.Genus.{HasFaces}
use Rattle.rotation_system.specs.InsertedEdges.{IsSpanningTree}
use Rattle.rotation_system.specs.RotationSystems.{RotationSystem, held}
use Rattle.genus_front.specs.EdgeParts.{AreParts}
use Rattle.genus_front.specs.GenusProblems.{OfGenusProblem, edges_of, pair_line}
use Rattle.genus_front.specs.GrownRotations.{OfGenus}
use Rattle.genus_front.specs.SpanningForests.{IsSpanningForest}
use Rattle.genus_front.proofs.IndependentSets.{edges_below, sets_are_spare}
use Rattle.genus_front.proofs.ListedPairs.{one_pair_list}

-- ---- of an independent set

module _ (S : Scalars) (E : List (ℕ × ℕ)) (M : List ℕ) (O : OfGenusProblem S E (λ p. IsIndependentSet S p M)) (P : List (ℕ × ℕ))
    (A : AreAdjacentPairs E P) where
  as_many : length O.problem.lines ≡ length P
  as_many = ap (λ (q : ParityProblem). length q.lines) O.is_problem.problem ∙ length-map O.is_problem.pairs (pair_line O.is_problem.matrix)
      ∙ ap length (one_pair_list E O.is_problem.pairs P O.is_problem.adjacent A)

  pub set_within : All (λ i. i < length P) M
  set_within = all-In (λ i. i < length P) M
      (λ i j. rw (sym as_many) (In-all (λ i. i < length O.problem.lines) M O.so.line_set.within i j))

  module _ (F : IsField S) (two : S.order ≡ 2) (n : ℕ) (B : All (AreBelow n) E) (C : IsConnected (edge_at E) n (edge_numbers E)) where
    pub parts_of : (others T rest : List ℕ) → others ≡ without (edges_of P M) (edge_numbers E) → IsSpanningForest (edge_at E) others T
        → rest ≡ without T others → AreParts E n (edges_of P M) T rest
    parts_of others T rest q f r = let s = (sets_are_spare S F two E n B C O.problem P M O.is_problem A O.so.line_set).0 O.so in record {
      graph = record {
        single = numbers_single E;
        below = λ e i. In-all (AreBelow n) E B (edge_at E e) (In-get_or E e (0, 0) (numbers_below E e i));
      };
      different = s.0;
      among = λ e i. numbers_all E e (In-all (λ e. e < length E) (edges_of P M)
          (edges_below E P A M (λ i j. In-all (λ i. i < length P) M set_within i j)) e (in_of_count e (edges_of P M) i));
      others = others;
      outside = q;
      connected = subst (IsConnected (edge_at E) n) (sym q) s.1;
      forest = f;
      left = r;
    }

-- some of the edges
pub part_below : (E : List (ℕ × ℕ)) (K : List ℕ) → ((e : ℕ) → 1 ≤ count e K → 1 ≤ count e (edge_numbers E)) → All (λ e. e < length E) K
part_below E K h = all-In (λ e. e < length E) K (λ e i. numbers_below E e (h e (count_of_in e K i)))

pub others_below : (E : List (ℕ × ℕ)) (taken others : List ℕ) → others ≡ without taken (edge_numbers E) → All (λ e. e < length E) others
others_below E taken others q = part_below E others (λ e i. (without_passes e taken (edge_numbers E) (omega (arith, i, ap (count e) q))).1)

-- ---- what the parts make

module _ (E : List (ℕ × ℕ)) (n : ℕ) (taken T rest : List ℕ) (X : AreParts E n taken T rest) where
  abbrev all : List ℕ
  all = edge_numbers E

  outside_taken : (e : ℕ) → count e taken ≡ 0 → count e X.others ≡ count e all
  outside_taken e z = ap (count e) X.outside ∙ count-without_out e taken all z

  not_outside : (e : ℕ) → ¬ (count e taken ≡ 0) → count e X.others ≡ 0
  not_outside e k = ap (count e) X.outside ∙ count-without_in e taken all k

  outside_tree : (e : ℕ) → count e T ≡ 0 → count e rest ≡ count e X.others
  outside_tree e z = ap (count e) X.left ∙ count-without_out e T X.others z

  not_outside_tree : (e : ℕ) → ¬ (count e T ≡ 0) → count e rest ≡ 0
  not_outside_tree e k = ap (count e) X.left ∙ count-without_in e T X.others k

  once : (e : ℕ) → count e T ≤ 1
  once = count_of_distinct T (forest_distinct (edge_at E) T X.forest.forest)

  -- together they are all edges
  pub together : (e : ℕ) → count e rest + (count e taken + count e T) ≡ count e all
  together e = go (ℕ_discrete (count e taken) 0) (ℕ_discrete (count e T) 0)
    where
      go : Dec (count e taken ≡ 0) → Dec (count e T ≡ 0) → count e rest + (count e taken + count e T) ≡ count e all
      go (yes z) (yes y) = omega (arith, z, y, outside_tree e y, outside_taken e z)
      go (yes z) (no m) = omega (
        arith,
        z,
        once e,
        X.graph.single e,
        X.forest.inside e (omega arith),
        outside_taken e z,
        not_outside_tree e m,
      )
      go (no k) (no m) = absurd (omega (arith, X.forest.inside e (omega arith), not_outside e k))
      go (no k) (yes y) = omega (
        arith,
        y,
        outside_tree e y,
        not_outside e k,
        count_of_distinct taken X.different e,
        X.graph.single e,
        X.among e (omega arith),
      )

  pub tree : IsSpanningTree (edge_at E) n T
  tree = record { forest = X.forest.forest; connects = λ u v k l. X.forest.joins u v (X.connected u v k l) }

  pub tree_below : All (λ e. e < length E) T
  tree_below = part_below E T (λ e i. omega (arith, i, together e))

  pub rest_below : All (λ e. e < length E) rest
  rest_below = part_below E rest (λ e i. omega (arith, i, together e))

  ends_below : EndsBelow (edge_at E) n T
  ends_below e i = X.graph.below e (omega (arith, i, together e))

  -- none of them twice
  pub taken_new : (r : RotationSystem) → ((e : ℕ) → count e (held r) ≡ count e T) → (e : ℕ) → count e taken + count e (held r) ≤ 1
  taken_new r h e = omega (arith, h e, together e, X.graph.single e)

  pub rest_new : (r r1 : RotationSystem) → ((e : ℕ) → count e (held r) ≡ count e T)
      → ((e : ℕ) → count e (held r1) ≡ count e taken + count e (held r)) → (e : ℕ) → count e rest + count e (held r1) ≤ 1
  rest_new r r1 h k e = omega (arith, h e, k e, together e, X.graph.single e)

  -- the genus of a rotation of the tree with one face is zero
  pub tree_genus : (r : RotationSystem) → length r.lists ≡ n → ((e : ℕ) → count e (held r) ≡ count e T)
      → HasFaces r.lists (one_component n) → OfGenus r 0
  tree_genus r v h f = record {
    F = one_component n;
    faces = f;
    euler = omega (
      arith,
      v,
      ap one_component v,
      same_length (held r) T h,
      forest_components (edge_at E) n T X.forest.forest ends_below,
      component_number_connected (edge_at E) n T tree.connects,
    );
  }
