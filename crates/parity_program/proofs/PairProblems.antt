-- The problem of the pairs of edges of a graph within its limits: its dimension is the cycle rank.
use Rattle.std.proofs.Common.{◌≡◌, ℕ, suc, ◌+◌, ◌<◌, ◌≤◌, inl, List, [], ◌∷◌, ◌++◌, length, map, refl, sym, ap, ◌∙◌, subst, arith}
use Rattle.std.proofs.Math.Decide.{ℕ_discrete, dec_lt}
use Rattle.std.proofs.lemmas.List.{length-append, length-map}
use Rattle.std.proofs.lemmas.List.Elements.{All-nil, All-cons}
use Rattle.std.specs.Prelude.{slice_index_or}
use Rattle.cographic.specs.CographicRows.{AreCographicRows, AreEntries, IsEntry}
use Rattle.edge_lists.proofs.Connections.{component_number_same, forest_components, joined_from, joined_more}
use Rattle.edge_lists.proofs.EdgeNumbers.{numbers_all, numbers_below, numbers_single}
use Rattle.edge_lists.proofs.Occurrences.{count-append, count-without_in, count-without_out, count_of_distinct, in_of_count}
use Rattle.edge_lists.proofs.SameEdges.{same_length}
use Rattle.edge_lists.specs.Connections.{component_number, EndsBelow, Joined}
use Rattle.edge_lists.specs.EdgeNumbers.{edge_numbers}
use Rattle.edge_lists.specs.Occurrences.{count, without}
use Rattle.field_core.specs.Matrix.{Matrix}
use Rattle.genus_front.specs.GenusProblems.{IsGenusProblem, pair_line, pairs_problem}
use Rattle.graph_core.specs.Adjacency.{AreAdjacentPairs}
use Rattle.graph_problems.proofs.ListedLines.{listed_problem}
use Rattle.graph_theory.proofs.Walks.{connected_of_walk, grown_of_forest}
use Rattle.graph_theory.specs.Counts.{component_count}
use Rattle.graph_theory.specs.Walks.{edge_at, onward, stay}
use Rattle.linear_algebra.specs.Scalars.{IsScalar, Scalars}
use Rattle.linear_algebra.specs.Vectors.{IsVector}
use Rattle.parity_lines.specs.Problems.{IsProblem, ParityProblem}
use Rattle.parity_program.proofs.CountedPairs.{counted}
use Rattle.parity_program.proofs.FirstApart.{same_edges}
use Rattle.parity_program.specs.AdjacentPairs.{cycle_rank, pair_count}
use Rattle.parity_text.specs.Values.{IsWithinLimits}
use Rattle.small_fields.specs.FieldName.{field_orders}
use Rattle.small_fields.specs.ScalarsOf.{scalars_of}
use Rattle.vector_spaces.proofs.Distinct.{increasing_distinct}
use Rattle.vector_spaces.proofs.Members.{In, In-get_or, contains-In}

abbrev two : Scalars
two = scalars_of 2

-- ---- rows

entry_scalar : (ends : ℕ → ℕ × ℕ) (T : List ℕ) (g x a : ℕ) → IsEntry two ends T g x a → IsScalar two a
entry_scalar ends T g x a h =
    elim (dec_lt a 2) [
      | yes l ↦ l
      | no k ↦
          let zero : a ≡ 0 = h.outside (λ c. k (let one : a ≡ 1 = h.inside c in omega (arith, one))) in
          absurd (k (omega (arith, zero)))
    ]

entries-vector : (ends : ℕ → ℕ × ℕ) (T : List ℕ) (x : ℕ) (gs v : List ℕ) → AreEntries two ends T x gs v → IsVector two (length gs) v
entries-vector ends T x [] [] h = record { length_is = refl; entries = All-nil (IsScalar two) }
entries-vector ends T x [] (a ∷ v) h = absurd h
entries-vector ends T x (g ∷ gs) [] h = absurd h
entries-vector ends T x (g ∷ gs) (a ∷ v) h =
    let r = entries-vector ends T x gs v h.1 in
    record {
      length_is = ap suc r.length_is;
      entries = All-cons (IsScalar two) a v (entry_scalar ends T g x a h.0) r.entries;
    }

row-vector : (E : List (ℕ × ℕ)) (m : Matrix) → AreCographicRows two E m → (x : ℕ) → x < length E
    → IsVector two m.width (slice_index_or m.rows x [])
row-vector E m G x l =
    subst (λ d. IsVector two d (slice_index_or m.rows x [])) (sym G.width)
    (entries-vector (edge_at E) G.tree x (without G.tree (edge_numbers E)) (slice_index_or m.rows x []) (G.rows x l))

pairs-problem : (E : List (ℕ × ℕ)) (m : Matrix) → AreCographicRows two E m → (P : List (ℕ × ℕ)) → AreAdjacentPairs E P
    → IsProblem two (pairs_problem m P)
pairs-problem E m G P all =
    listed_problem two m.width (pair_line m) P (λ p i.
    let h = all.each p i in
    let first = h.0 in
    let second = h.1 in
    (row-vector E m G p.0 (omega (arith, first, second)), row-vector E m G p.1 second))

-- ---- the dimension

module _ (n : ℕ) (E : List (ℕ × ℕ)) (range : (e : ℕ × ℕ) → In e E → (e.0 < n) × (e.1 < n)) (m : Matrix) (G : AreCographicRows two E m) where
  abbrev T : List ℕ
  T = G.tree

  abbrev all : List ℕ
  all = edge_numbers E

  inside : (e : ℕ) → 1 ≤ count e T → 1 ≤ count e all
  inside e i = numbers_all E e (G.greedy.edges e (in_of_count e T i))

  once : (e : ℕ) → count e T ≤ 1
  once = count_of_distinct T (increasing_distinct T G.greedy.increasing)

  -- the edges outside the tree and those of the tree are all
  parted : (c : ℕ) → count c (without T all ++ T) ≡ count c all
  parted c =
      let both = count-append c (without T all) T in
      let single = numbers_single E c in
      elim (ℕ_discrete (count c T) 0) [
        | yes none ↦ omega (arith, both, none, count-without_out c T all none)
        | no some ↦
            let there = inside c (omega (arith, some)) in
            let one = once c in
            omega (arith, both, some, one, there, single, count-without_in c T all some)
      ]

  apart : length (without T all) + length T ≡ length E
  apart =
      let whole = same_length (without T all ++ T) all parted in
      let both = length-append (without T all) T in
      let long = ap length same_edges_of ∙ length-map all (edge_at E) in
      omega (arith, whole, both, long)
    where
      same_edges_of : E ≡ map (edge_at E) all
      same_edges_of = same_edges n E

  ends_below : EndsBelow (edge_at E) n T
  ends_below e i = range (edge_at E e) (In-get_or E e (0, 0) (numbers_below E e (inside e i)))

  spans : (u v : ℕ) → Joined (edge_at E) all u v → Joined (edge_at E) T u v
  spans = joined_from (edge_at E) all T (λ e i. connected_of_walk (map (edge_at E) T) (edge_at E e).0 (edge_at E e).1
      (G.spanning (edge_at E e).0 (edge_at E e).1
      (onward (edge_at E e).0 (edge_at E e).1 stay (inl (In-get_or E e (0, 0) (numbers_below E e i))))))

  components : length T + component_count n E ≡ n
  components =
      let tree = forest_components (edge_at E) n T (grown_of_forest (map (edge_at E) T) G.forest) ends_below in
      let same = component_number_same (edge_at E) n T all (joined_more (edge_at E) T all inside) spans in
      let graph : component_number (edge_at E) n all ≡ component_count n E = ap (component_count n) (sym (same_edges n E)) in
      omega (arith, tree, same, graph)

  width : m.width ≡ cycle_rank n E
  width = let a = apart in let b = components in let d = G.width in omega (arith, a, b, d)

-- ---- within the limits

pub pairs_within : (n : ℕ) (E : List (ℕ × ℕ)) (p : ParityProblem) → ((e : ℕ × ℕ) → In e E → (e.0 < n) × (e.1 < n))
    → IsGenusProblem two E p → pair_count E ≤ 2048 → cycle_rank n E ≤ 128 → IsWithinLimits two p
pairs_within n E p range is few small =
    let wide = width n E range is.matrix is.rows in
    let many = counted E is.pairs is.adjacent in
    let lines = length-map is.pairs (pair_line is.matrix) in
    subst (IsWithinLimits two) (sym is.problem) (record {
      order = contains-In field_orders 2 (inl refl);
      dimension = omega (arith, wide, small);
      lines = omega (arith, lines, many, few);
      vectors = pairs-problem E is.matrix is.rows is.pairs is.adjacent;
    })
