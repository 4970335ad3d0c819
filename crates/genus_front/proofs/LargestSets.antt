-- The largest sets of the problem of pairs have as many lines as the maximum genus says.
use Rattle.std.proofs.Common.{◌≡◌, ℕ, ◌<◌, ◌≤◌, List, All, length, sym, ap, ◌∙◌, subst, arith}
use Rattle.std.proofs.lemmas.List.{length-map}
use Rattle.std.specs.List.Sorted.{IsStrictlyIncreasing}
use Rattle.std.specs.Prelude.{slice_index_or}
use Rattle.vector_spaces.proofs.Distinct.{IsDistinct}
use Rattle.vector_spaces.proofs.Members.{In, In-all, In-get_or, all-In}
use Rattle.vector_spaces.proofs.Space.{Field, Space}
use Rattle.vector_spaces.proofs.Tuples.{tuples}
use Rattle.linear_algebra.specs.Scalars.{Scalars, IsField}
use Rattle.linear_algebra.proofs.Elements.{scalar_field}
use Rattle.parity_lines.specs.Problems.{ParityProblem}
use Rattle.parity_lines.specs.LineSets.{IsIndependentSet, IsLargest, IsLineSet}
use Rattle.graph_theory.specs.Walks.{edge_at}
use Rattle.graph_problems.proofs.Positions.{arranged}
use Rattle.edge_lists.specs.Connections.{AreBelow, IsConnected, IsGraph}
use Rattle.edge_lists.specs.EdgeNumbers.{edge_numbers}
use Rattle.edge_lists.specs.EdgePairs.{IsMostPairs, ListsPairs, XuongPairs}
use Rattle.edge_lists.specs.Occurrences.{count, without}
use Rattle.edge_lists.proofs.Connections.{joined_more}
use Rattle.edge_lists.proofs.EdgeNumbers.{numbers_below, numbers_single}
use Rattle.edge_lists.proofs.Occurrences.{count-without_out, count_of_distinct, distinct_of_count, without_passes}
use Rattle.edge_lists.proofs.SpanningForests.{Spanning, spanning_forest}
use Rattle.cographic_theory.proofs.CographicTuples.{cographic_tuples, path_of, row_of}
use Rattle.cographic_theory.proofs.CographicVectors.{IsCographic}
use Rattle.cographic_theory.proofs.PairLines.{SetOf, independent_set, pairs_of_set, set_is_distinct, set_leaves_connected, set_of_pairs}
use Rattle.cographic.proofs.CographicLaw.{two_elements}
use Rattle.rotation_theory.specs.Genus.{HasGenus}
use Rattle.rotation_theory.specs.MaximumGenus.{IsMaximumGenus}
use Rattle.rotation_theory.specs.Rotations.{IsRotation}
use Rattle.rotation_theory.proofs.Genus.{genus_at_most}
use Rattle.rotation_theory.proofs.MaximumGenus.{GenusAtLeast, maximum_of_most, most_of_maximum, rotation_of_pairs}
use Rattle.genus_front.specs.GenusProblems.{IsGenusProblem, edges_of, pair_line}
use Rattle.genus_front.proofs.IndependentSets.{IsSpare, sets_are_spare}
use Rattle.genus_front.proofs.ListedPairs.{listed}
use Rattle.genus_front.proofs.SameEdges.{Arranged, arranged_same, positions_distinct, same_edges}

module _ (S : Scalars) (F : IsField S) (two : S.order ≡ 2) (E : List (ℕ × ℕ)) (n : ℕ) (B : All (AreBelow n) E)
    (C : IsConnected (edge_at E) n (edge_numbers E)) where
  abbrev ends : ℕ → ℕ × ℕ
  ends = edge_at E

  abbrev all : List ℕ
  all = edge_numbers E

  pub graph : IsGraph ends n all
  graph = record {
    single = numbers_single E;
    below = λ e i. In-all (AreBelow n) E B (ends e) (In-get_or E e (0, 0) (numbers_below E e i));
  }

  module _ (p : ParityProblem) (G : IsGenusProblem S E p) where
    abbrev pair : ℕ → ℕ × ℕ
    pair i = slice_index_or G.pairs i (0, 0)

    as_many : length p.lines ≡ length G.pairs
    as_many = ap (λ (q : ParityProblem). length q.lines) G.problem ∙ length-map G.pairs (pair_line G.matrix)

    below_pairs : (M : List ℕ) → IsLineSet p M → (i : ℕ) → In i M → i < length G.pairs
    below_pairs M L i j = rw (sym as_many) (In-all (λ i. i < length p.lines) M L.within i j)

    Q : ListsPairs ends all pair (length G.pairs)
    Q = listed E G.pairs G.adjacent

    -- an independent set of g lines
    pub record LinesOf (g : ℕ) : Type 0 where
      pub M : List ℕ
      pub independent : IsIndependentSet S p M
      pub size : length M ≡ g

    module _ {K V : Type 0} (T : List ℕ) (f : Field K) (s : Space f V) (row : ℕ → V) (I : IsCographic ends all T f s row) where
      pairs_by : (M : List ℕ) → IsIndependentSet S p M → XuongPairs ends n all (length M)
      pairs_by M h =
          let spare = (sets_are_spare S F two E n B C p G.pairs M G G.adjacent h.line_set).0 h in
          let below = below_pairs M h.line_set in
          pairs_of_set ends n all graph pair (length G.pairs) Q T f s row I C M below
          (independent_set ends n all graph pair (length G.pairs) Q T f s row I C M below spare.0 spare.1)

      -- the same set in increasing order
      ordered : (g : ℕ) (r : SetOf ends n all graph pair (length G.pairs) Q T f s row I C g)
          → ((L : List ℕ) × IsStrictlyIncreasing L × ((x : ℕ) → In x r.M → In x L) × ((x : ℕ) → In x L → In x r.M)) → LinesOf g
      ordered g r a = record {
        M = a.0;
        independent = (sets_are_spare S F two E n B C p G.pairs a.0 G G.adjacent lines).1 spare;
        size = same.long ∙ r.size;
      }
        where
          apart : IsDistinct (edges_of G.pairs r.M)
          apart = set_is_distinct ends n all graph pair (length G.pairs) Q T f s row I C r.M r.independent

          same : Arranged r.M a.0
          same = arranged_same r.M a.0 (positions_distinct pair r.M apart) a.1 a.2 a.3

          lines : IsLineSet p a.0
          lines = record {
            increasing = a.1;
            within = all-In (λ i. i < length p.lines) a.0 (λ i j. rw as_many (r.below i (a.3 i j)));
          }

          edges : (e : ℕ) → count e (edges_of G.pairs a.0) ≡ count e (edges_of G.pairs r.M)
          edges e = same_edges pair a.0 r.M same.same e

          kept : (e : ℕ) → 1 ≤ count e (without (edges_of G.pairs r.M) all) → 1 ≤ count e (without (edges_of G.pairs a.0) all)
          kept e i = let w = without_passes e (edges_of G.pairs r.M) all i in
              omega (arith, w.1, count-without_out e (edges_of G.pairs a.0) all (edges e ∙ w.0))

          spare : IsSpare S F two E n B C G.pairs a.0
          spare = (
            distinct_of_count (edges_of G.pairs a.0) (λ e. omega (arith, edges e, count_of_distinct (edges_of G.pairs r.M) apart e)),
            λ u v k l. joined_more ends (without (edges_of G.pairs r.M) all) (without (edges_of G.pairs a.0) all) kept u v
                (set_leaves_connected ends n all graph pair (length G.pairs) Q T f s row I C r.M r.below r.independent u v k l),
          )

      lines_by : (g : ℕ) → XuongPairs ends n all g → LinesOf g
      lines_by g X = let r = set_of_pairs ends n all graph pair (length G.pairs) Q T f s row I C g X in
          ordered g r (arranged (length G.pairs) r.M r.below)

    span : Spanning ends all
    span = spanning_forest ends all

    inside : (e : ℕ) → 1 ≤ count e span.T → 1 ≤ count e all
    inside e i = omega (arith, i, span.all e)

    cographic : IsCographic ends all span.T (scalar_field S F) (tuples (scalar_field S F) (length (without span.T all)))
        (row_of (scalar_field S F) (two_elements S F two)
        (path_of ends all span.T (numbers_single E) span.forest inside span.joins) (without span.T all))
    cographic = cographic_tuples ends all span.T (numbers_single E) span.forest inside span.joins (scalar_field S F) (two_elements S F two)

    pub pairs_of_lines : (M : List ℕ) → IsIndependentSet S p M → XuongPairs ends n all (length M)
    pairs_of_lines = pairs_by span.T _ _ _ cographic

    pub lines_of_pairs : (g : ℕ) → XuongPairs ends n all g → LinesOf g
    lines_of_pairs = lines_by span.T _ _ _ cographic

    -- the size of an independent set is at most the genus of some rotation
    pub rotation_of_lines : (M : List ℕ) → IsIndependentSet S p M → GenusAtLeast ends n all (length M)
    rotation_of_lines M h = rotation_of_pairs ends n all graph (length M) (pairs_of_lines M h)

    -- and the genus of a rotation is the size of an independent set
    pub lines_of_rotation : (L : List (List ℕ)) (g : ℕ) → IsRotation ends n all L → HasGenus n all L g → LinesOf g
    lines_of_rotation L g R h = lines_of_pairs g (genus_at_most ends n all L g R C h)

    most_of_largest : (M : List ℕ) → IsLargest S p M → IsMostPairs ends n all (length M)
    most_of_largest M L = record {
      pairs = pairs_of_lines M L.independent_set;
      most = λ g X. let r : LinesOf g = lines_of_pairs g X in let k = L.most r.M r.independent in let e = r.size in omega arith;
    }

    -- the size of a largest set is the maximum genus
    pub largest_is_maximum : (M : List ℕ) → IsLargest S p M → IsMaximumGenus ends n all (length M)
    largest_is_maximum M L = maximum_of_most ends n all graph C (length M) (most_of_largest M L)

    -- and the maximum genus is the size of a largest set
    pub largest_of_maximum : (g : ℕ) → IsMaximumGenus ends n all g → (M : List ℕ) × IsLargest S p M × (length M ≡ g)
    largest_of_maximum g I = go (most_of_maximum ends n all graph C g I)
      where
        go : IsMostPairs ends n all g → (M : List ℕ) × IsLargest S p M × (length M ≡ g)
        go P = let r : LinesOf g = lines_of_pairs g P.pairs in (
          r.M,
          record {
            independent_set = r.independent;
            most = λ J h. let k = P.most (length J) (pairs_of_lines J h) in let e = r.size in omega arith;
          },
          r.size,
        )

    -- a rotation whose genus is no smaller than a largest set is long has the maximum genus
    pub maximum_of_largest : (M : List ℕ) → IsLargest S p M → (L : List (List ℕ)) (g : ℕ) → IsRotation ends n all L → HasGenus n all L g
        → length M ≤ g → IsMaximumGenus ends n all g
    maximum_of_largest M h L g R k l =
        let m : IsMaximumGenus ends n all (length M) = largest_is_maximum M h in
        let most = m.most L g R k in
        subst (IsMaximumGenus ends n all) (omega (arith, l, most)) m
