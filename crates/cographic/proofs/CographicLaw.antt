-- The law of the cographic vectors of a connected graph, over a field of two elements.
use Rattle.std.proofs.Common.{◌≡◌, ℕ, suc, ◌<◌, ◌≤◌, inl, inr, ◌⊎◌, List, [], ◌∷◌, All, map, length, refl, sym, ap, ap₂, subst, ◌∙◌, arith}
use Rattle.std.proofs.Math.Decide.{ℕ_discrete}
use Rattle.std.proofs.lemmas.List.Elements.{All-nil, All-cons}
use Rattle.std.specs.Prelude.{◌↔◌, slice_index_or}
use Rattle.vector_spaces.proofs.Distinct.{IsDistinct}
use Rattle.vector_spaces.proofs.Independence.{IsIndependent as IsIndependent_of}
use Rattle.vector_spaces.proofs.Members.{In, In-all, In-get_or}
use Rattle.vector_spaces.proofs.Tuples.{Tuple}
use Rattle.linear_algebra.specs.Scalars.{Scalars, IsField, IsScalar}
use Rattle.linear_algebra.specs.Spans.{IsIndependent}
use Rattle.linear_algebra.specs.Vectors.{AreVectors, IsVector}
use Rattle.linear_algebra.proofs.Coordinates.{element, element-number, element-zero, space, tuple}
use Rattle.linear_algebra.proofs.Elements.{Element, one_element, same_element, scalar_field, zero_element}
use Rattle.linear_algebra.proofs.Transfer.{independent_from_tuples, independent_to_tuples, tuples_of}
use Rattle.field_core.specs.Matrix.{Matrix}
use Rattle.graph_theory.specs.Walks.{edge_at, onward, stay}
use Rattle.graph_theory.proofs.Walks.{connected_of_walk, grown_of_forest}
use Rattle.edge_lists.specs.EdgeNumbers.{edge_numbers}
use Rattle.edge_lists.proofs.EdgeNumbers.{numbers_all, numbers_below, numbers_single}
use Rattle.edge_lists.proofs.Connections.{joined_from}
use Rattle.edge_lists.specs.Connections.{AreBelow, AreForest, EndsBelow, IsConnected, Joined}
use Rattle.edge_lists.specs.Occurrences.{count, without}
use Rattle.edge_lists.proofs.Occurrences.{count-here, count-there, count_of_in, in_of_count, without_passes}
use Rattle.cographic_theory.proofs.CographicTuples.{cographic_by, row_of}
use Rattle.cographic_theory.proofs.CographicVectors.{IsCographic, connected_of_independent, distinct_of_independent, independent_of_connected}
use Rattle.cographic_theory.proofs.TwoElements.{scalar, scalar-one, scalar-zero}
use Rattle.cographic.specs.CographicRows.{AreCographicRows, AreEntries, InCycle, IsEntry, vectors_of}
use Rattle.cographic.proofs.CyclePaths.{decide_cycle, none_off_cycle, once_in_cycle, path_of, tree_paths}

module _ (S : Scalars) (F : IsField S) (two : S.order ≡ 2) where
  pub two_elements : (c : Element S) → (c ≡ (scalar_field S F).zero) ⊎ (c ≡ (scalar_field S F).one)
  unfolding scalar_field zero_element one_element
  two_elements c = go (ℕ_discrete c.0 S.zero) (ℕ_discrete c.0 S.one)
    where
      go : Dec (c.0 ≡ S.zero) → Dec (c.0 ≡ S.one) → (c ≡ (scalar_field S F).zero) ⊎ (c ≡ (scalar_field S F).one)
      go (yes q) d = inl (same_element S c _ q)
      go (no n) (yes q) = inr (same_element S c _ q)
      go (no n) (no m) = absurd (F.one≢zero (let a = c.1 in let b = F.zero_in in let d = F.one_in in omega arith))

  element-one : element S F S.one ≡ (scalar_field S F).one
  unfolding scalar_field one_element
  element-one = same_element S _ _ (element-number S F S.one F.one_in)

  module _ (ends : ℕ → ℕ × ℕ) (E T : List ℕ) (single : (e : ℕ) → count e E ≤ 1) (forest : AreForest ends T)
      (sub_T : (e : ℕ) → 1 ≤ count e T → 1 ≤ count e E) (spans : (u v : ℕ) → Joined ends E u v → Joined ends T u v) where
    abbrev path : ℕ → List ℕ
    path = path_of ends E T forest sub_T spans

    abbrev row : (gs : List ℕ) → ℕ → Tuple (Element S) (length gs)
    row gs x = row_of (scalar_field S F) two_elements path gs x

    -- entries as elements of the field
    entry-element : (g x a : ℕ) → 1 ≤ count g E → count g T ≡ 0 → IsEntry S ends T g x a
        → element S F a ≡ scalar (scalar_field S F) two_elements (count x (g ∷ path g))
    entry-element g x a i n h = go (decide_cycle ends E T forest sub_T spans g x i n)
      where
        go : Dec (InCycle ends T g x) → element S F a ≡ scalar (scalar_field S F) two_elements (count x (g ∷ path g))
        go (yes c) = ap (element S F) (h.inside c) ∙ element-one ∙ sym (scalar-one (scalar_field S F) two_elements)
            ∙ ap (scalar (scalar_field S F) two_elements) (sym (once_in_cycle ends E T forest sub_T spans g x i n c))
        go (no c) = ap (element S F) (h.outside c) ∙ element-zero S F ∙ sym (scalar-zero (scalar_field S F) two_elements)
            ∙ ap (scalar (scalar_field S F) two_elements) (sym (none_off_cycle ends E T forest sub_T spans g x i n c))

    entry_scalar : (g x a : ℕ) → 1 ≤ count g E → count g T ≡ 0 → IsEntry S ends T g x a → IsScalar S a
    entry_scalar g x a i n h = go (decide_cycle ends E T forest sub_T spans g x i n)
      where
        go : Dec (InCycle ends T g x) → IsScalar S a
        go (yes c) = subst (IsScalar S) (sym (h.inside c)) F.one_in
        go (no c) = subst (IsScalar S) (sym (h.outside c)) F.zero_in

    tuple-entries : (gs : List ℕ) (x : ℕ) (v : List ℕ) → ((g : ℕ) → In g gs → (1 ≤ count g E) × (count g T ≡ 0))
        → AreEntries S ends T x gs v → tuple S F (length gs) v ≡ row gs x
    unfolding tuple
    tuple-entries [] x [] o h = refl
    tuple-entries [] x (a ∷ v) o h = absurd h
    tuple-entries (g ∷ gs) x [] o h = absurd h
    tuple-entries (g ∷ gs) x (a ∷ v) o h = ap₂ (λ s t. (s, t)) (entry-element g x a (o g (inl refl)).0 (o g (inl refl)).1 h.0)
        (tuple-entries gs x v (λ c i. o c (inr i)) h.1)

    entries-vector : (gs : List ℕ) (x : ℕ) (v : List ℕ) → ((g : ℕ) → In g gs → (1 ≤ count g E) × (count g T ≡ 0))
        → AreEntries S ends T x gs v → IsVector S (length gs) v
    entries-vector [] x [] o h = record { length_is = refl; entries = All-nil (IsScalar S) }
    entries-vector [] x (a ∷ v) o h = absurd h
    entries-vector (g ∷ gs) x [] o h = absurd h
    entries-vector (g ∷ gs) x (a ∷ v) o h = let r = entries-vector gs x v (λ c i. o c (inr i)) h.1 in record {
      length_is = ap suc r.length_is;
      entries = All-cons (IsScalar S) a v (entry_scalar g x a (o g (inl refl)).0 (o g (inl refl)).1 h.0) r.entries;
    }

    module _ (vector : ℕ → List ℕ) (entries : (x : ℕ) → 1 ≤ count x E → AreEntries S ends T x (without T E) (vector x))
        (n : ℕ) (below : EndsBelow ends n E) (C : IsConnected ends n E) where
      abbrev d : ℕ
      d = length (without T E)

      others : (g : ℕ) → In g (without T E) → (1 ≤ count g E) × (count g T ≡ 0)
      others g i = let r = without_passes g T E (count_of_in g (without T E) i) in (r.1, r.0)

      tuples-rows : (L : List ℕ) → ((e : ℕ) → 1 ≤ count e L → 1 ≤ count e E) → tuples_of S F d (map vector L) ≡ map (row (without T E)) L
      tuples-rows [] h = refl
      tuples-rows (e ∷ L) h = ap₂ (λ x xs. x ∷ xs)
          (tuple-entries (without T E) e (vector e) others (entries e (h e (count-here e L))))
          (tuples-rows L (λ c i. h c (count-there c e L i)))

      are_vectors : (L : List ℕ) → ((e : ℕ) → 1 ≤ count e L → 1 ≤ count e E) → AreVectors S d (map vector L)
      are_vectors [] h = All-nil (IsVector S d)
      are_vectors (e ∷ L) h = All-cons (IsVector S d) (vector e) (map vector L)
          (entries-vector (without T E) e (vector e) others (entries e (h e (count-here e L))))
          (are_vectors L (λ c i. h c (count-there c e L i)))

      cographic : IsCographic ends E T (scalar_field S F) (space S F d) (row (without T E))
      unfolding tree_paths
      cographic = cographic_by ends E T single (tree_paths ends E T forest sub_T spans) (scalar_field S F) two_elements

      pub law : (L : List ℕ) → ((e : ℕ) → 1 ≤ count e L → 1 ≤ count e E)
          → IsIndependent S d (map vector L) ↔ (IsDistinct L × IsConnected ends n (without L E))
      law L h = (
        λ i. let j = subst (IsIndependent_of (space S F d)) (tuples-rows L h) (independent_to_tuples S F d (map vector L) (are_vectors L h) i) in (
          distinct_of_independent ends E T (scalar_field S F) (space S F d) (row (without T E)) cographic L j,
          connected_of_independent ends E T (scalar_field S F) (space S F d) (row (without T E)) cographic n below L h C j,
        ),
        λ p. independent_from_tuples S F d (map vector L) (are_vectors L h) (subst (IsIndependent_of (space S F d)) (sym (tuples-rows L h))
            (independent_of_connected ends E T (scalar_field S F) (space S F d) (row (without T E)) cographic n below L h p.0 p.1)),
      )

  -- the vectors of edges of a connected graph
  pub cographic_law : (E : List (ℕ × ℕ)) (n : ℕ) (m : Matrix) → AreCographicRows S E m → All (AreBelow n) E
      → IsConnected (edge_at E) n (edge_numbers E) → (L : List ℕ) → All (λ e. e < length E) L
      → IsIndependent S m.width (vectors_of m L) ↔ (IsDistinct L × IsConnected (edge_at E) n (without L (edge_numbers E)))
  cographic_law E n m G B C L h = subst
      (λ d. IsIndependent S d (vectors_of m L) ↔ (IsDistinct L × IsConnected (edge_at E) n (without L (edge_numbers E)))) (sym G.width)
      (law (edge_at E) (edge_numbers E) G.tree (numbers_single E) (grown_of_forest (map (edge_at E) G.tree) G.forest) sub spans
      (λ x. slice_index_or m.rows x []) (λ x i. G.rows x (numbers_below E x i)) n ends_below C L
      (λ e i. numbers_all E e (In-all (λ e. e < length E) L h e (in_of_count e L i))))
    where
      ends_below : EndsBelow (edge_at E) n (edge_numbers E)
      ends_below e i = In-all (AreBelow n) E B (edge_at E e) (In-get_or E e (0, 0) (numbers_below E e i))

      sub : (e : ℕ) → 1 ≤ count e G.tree → 1 ≤ count e (edge_numbers E)
      sub e i = numbers_all E e (G.greedy.edges e (in_of_count e G.tree i))

      spans : (u v : ℕ) → Joined (edge_at E) (edge_numbers E) u v → Joined (edge_at E) G.tree u v
      spans = joined_from (edge_at E) (edge_numbers E) G.tree (λ e i. connected_of_walk (map (edge_at E) G.tree) (edge_at E e).0 (edge_at E e).1
          (G.spanning (edge_at E e).0 (edge_at E e).1
          (onward (edge_at E e).0 (edge_at E e).1 stay (inl (In-get_or E e (0, 0) (numbers_below E e i))))))
