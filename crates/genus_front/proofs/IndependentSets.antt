-- The independent sets of the problem of pairs: no edge twice, and the graph without the edges is connected.
use Rattle.std.proofs.Common.{◌≡◌, ℕ, ◌<◌, inl, inr, List, [], ◌∷◌, All, length, refl, sym, ap₂, subst, arith}
use Rattle.std.proofs.lemmas.List.{length-map}
use Rattle.std.proofs.lemmas.List.Elements.{All-nil, All-cons}
use Rattle.std.specs.Prelude.{◌↔◌, slice_index_or}
use Rattle.vector_spaces.proofs.Distinct.{IsDistinct}
use Rattle.vector_spaces.proofs.Members.{In, In-all}
use Rattle.linear_algebra.specs.Scalars.{Scalars, IsField}
use Rattle.linear_algebra.specs.Spans.{IsIndependent}
use Rattle.field_core.specs.Matrix.{Matrix}
use Rattle.parity_lines.specs.Problems.{ParityProblem, vectors_at}
use Rattle.parity_lines.specs.LineSets.{IsIndependentSet, IsLineSet}
use Rattle.graph_theory.specs.Walks.{edge_at}
use Rattle.graph_core.specs.Adjacency.{AreAdjacentPairs}
use Rattle.graph_problems.proofs.ListedLines.{line_of}
use Rattle.edge_lists.specs.Connections.{AreBelow, IsConnected}
use Rattle.edge_lists.specs.EdgeNumbers.{edge_numbers}
use Rattle.edge_lists.specs.EdgePairs.{flat}
use Rattle.edge_lists.specs.Occurrences.{without}
use Rattle.cographic.specs.CographicRows.{AreCographicRows, vectors_of}
use Rattle.cographic.proofs.CographicLaw.{cographic_law}
use Rattle.genus_front.specs.GenusProblems.{IsGenusProblem, edges_of, pair_line, pairs_problem}
use Rattle.genus_front.proofs.ListedPairs.{one_pair_list, pair_is}

module _ (m : Matrix) (P : List (ℕ × ℕ)) where
  -- the vectors of the lines of a set are those of the edges of its pairs
  vectors-edges : (M : List ℕ) → ((i : ℕ) → In i M → i < length P) → vectors_at (pairs_problem m P) M ≡ vectors_of m (edges_of P M)
  unfolding vectors_at flat
  vectors-edges [] h = refl
  vectors-edges (i ∷ M) h = ap₂ (λ (x : List ℕ × List ℕ) xs. x.0 ∷ x.1 ∷ xs)
      (line_of (pairs_problem m P) (pair_line m) P refl i (0, 0) (rw (length-map P (pair_line m)) (h i (inl refl))))
      (vectors-edges M (λ k j. h k (inr j)))

module _ (E P : List (ℕ × ℕ)) (A : AreAdjacentPairs E P) where
  -- the edges of pairs are edges
  pub edges_below : (M : List ℕ) → ((i : ℕ) → In i M → i < length P) → All (λ e. e < length E) (edges_of P M)
  unfolding flat
  edges_below [] h = All-nil (λ e. e < length E)
  edges_below (i ∷ M) h =
      let a = pair_is E P A i (h i (inl refl)) in
      All-cons (λ e. e < length E) (slice_index_or P i (0, 0)).0 ((slice_index_or P i (0, 0)).1 ∷ edges_of P M)
      (let b = a.0 in let c = a.1 in omega arith)
      (All-cons (λ e. e < length E) (slice_index_or P i (0, 0)).1 (edges_of P M) a.1 (edges_below M (λ k j. h k (inr j))))

module _ (S : Scalars) (F : IsField S) (two : S.order ≡ 2) (E : List (ℕ × ℕ)) (n : ℕ) (B : All (AreBelow n) E)
    (C : IsConnected (edge_at E) n (edge_numbers E)) where
  -- the pairs at these positions have no edge twice, and the graph without the edges is connected
  abbrev pub IsSpare : List (ℕ × ℕ) → List ℕ → Type 0
  IsSpare P M = IsDistinct (edges_of P M) × IsConnected (edge_at E) n (without (edges_of P M) (edge_numbers E))

  own_sets : (m : Matrix) (P : List (ℕ × ℕ)) → AreCographicRows S E m → AreAdjacentPairs E P → (M : List ℕ)
      → IsLineSet (pairs_problem m P) M
      → IsIndependentSet S (pairs_problem m P) M ↔ IsSpare P M
  own_sets m P G A M L = (
    λ i. law.0 (subst (IsIndependent S m.width) (vectors-edges m P M within) i.independent),
    λ s. record { line_set = L; independent = subst (IsIndependent S m.width) (sym (vectors-edges m P M within)) (law.1 s) },
  )
    where
      within : (i : ℕ) → In i M → i < length P
      within i j = rw (sym (length-map P (pair_line m))) (In-all (λ i. i < length (pairs_problem m P).lines) M L.within i j)

      law : IsIndependent S m.width (vectors_of m (edges_of P M)) ↔ IsSpare P M
      law = cographic_law S F two E n m G B C (edges_of P M) (edges_below E P A M within)

  -- the same for the problem, and any list of the pairs
  pub sets_are_spare : (p : ParityProblem) (P : List (ℕ × ℕ)) (M : List ℕ) → IsGenusProblem S E p → AreAdjacentPairs E P → IsLineSet p M
      → IsIndependentSet S p M ↔ IsSpare P M
  sets_are_spare p P M G A L = subst (λ q. IsLineSet q M → IsIndependentSet S q M ↔ IsSpare P M) (sym G.problem)
      (λ L. subst (λ Q. IsIndependentSet S (pairs_problem G.matrix G.pairs) M ↔ IsSpare Q M) (one_pair_list E G.pairs P G.adjacent A)
      (own_sets G.matrix G.pairs G.rows G.adjacent M L)) L
