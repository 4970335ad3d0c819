-- The cactus of an independent set: the corners of the triangles at its positions.
use Rattle.std.proofs.Common.{◌≡◌, ℕ, ◌<◌, inl, inr, List, [], ◌∷◌, All, length, map, get_or, refl, sym, ap, ap₂, ◌∙◌, subst}
use Rattle.std.proofs.lemmas.List.{length-map, get_or-map}
use Rattle.vector_spaces.proofs.Members.{In, In-all}
use Rattle.linear_algebra.specs.Scalars.{Scalars, IsField}
use Rattle.parity_lines.specs.LineSets.{IsIndependentSet, IsLargest}
use Rattle.parity_lines.specs.Problems.{ParityProblem}
use Rattle.graph_core.specs.Adjacency.{AreTriangleLists}
use Rattle.graph_theory.specs.Cacti.{corners, triple_at, IsCactus, IsLargestCactus}
use Rattle.graph_theory.specs.Counts.{InRange}
use Rattle.graph_theory.proofs.Triples.{lexicographic_at}
use Rattle.graph_problems.specs.GraphLines.{triangle_problem}
use Rattle.graph_problems.proofs.OneProblem.{one_cactus_problem}
use Rattle.graph_problems.proofs.TriangleSets.{cactus_of_set, largest_cactus}
use Rattle.cactus_front.specs.CactusLists.{AreCorners, OfCactusProblem}

module _ (S : Scalars) (F : IsField S) (two : S.sum S.one S.one ≡ S.zero) (n : ℕ) (E : List (ℕ × ℕ)) (lists : List (List ℕ)) (t : AreTriangleLists E lists)
    (L : List ℕ) where
  -- what is so of the problem of the graph is so of that of these triangles
  of_triangles : (P : ParityProblem → Type 0) → OfCactusProblem S n E P → P (triangle_problem S n t.triples)
  of_triangles P h = subst P (one_cactus_problem S n E h.problem (triangle_problem S n t.triples) h.is_problem
      (record { triples = t.triples; triangles = t.triangles; problem = refl })) h.so

  module _ (set : OfCactusProblem S n E (λ p. IsIndependentSet S p L)) where
    independent : IsIndependentSet S (triangle_problem S n t.triples) L
    independent = of_triangles (λ p. IsIndependentSet S p L) set

    within : (i : ℕ) → In i L → i < length t.triples
    within i j = subst (λ z. i < z) (length-map t.triples _) (In-all (λ m. m < length (triangle_problem S n t.triples).lines) L independent.line_set.within i j)

    as_many : length lists ≡ length t.triples
    as_many = ap length t.corners_of ∙ length-map t.triples corners

    pub positions_within : All (λ i. i < length lists) L
    positions_within = λ k d l. subst (λ z. get_or L k d < z) (length-map t.triples _ ∙ sym as_many) (independent.line_set.within k d l)

    chosen_corners : (M : List ℕ) → ((i : ℕ) → In i M → i < length t.triples) → map (λ i. get_or lists i []) M ≡ map corners (map (triple_at t.triples) M)
    chosen_corners [] h = refl
    chosen_corners (i ∷ M) h = ap₂ (λ x xs. x ∷ xs)
        (ap (λ z. get_or z i []) t.corners_of ∙ get_or-map corners t.triples i (0, 0, 0) [] (h i (inl refl)))
        (chosen_corners M (λ j k. h j (inr k)))

    are_corners : (P : List (ℕ × ℕ × ℕ) → Type 0) (found : List (List ℕ)) → found ≡ map (λ i. get_or lists i []) L → P (map (triple_at t.triples) L) → AreCorners P found
    are_corners P found e h = record {
      triples = map (triple_at t.triples) L;
      are = h;
      ordered = lexicographic_at t.triples t.triangles.ordered L independent.line_set.increasing within;
      corners_of = e ∙ chosen_corners L within;
    }

    pub chosen_cactus : (found : List (List ℕ)) → found ≡ map (λ i. get_or lists i []) L → AreCorners (IsCactus E) found
    chosen_cactus found e = are_corners (IsCactus E) found e (cactus_of_set S F two n t.triples E t.triangles L independent)

    pub chosen_largest : InRange n E → OfCactusProblem S n E (λ p. IsLargest S p L) → (found : List (List ℕ)) → found ≡ map (λ i. get_or lists i []) L
        → AreCorners (IsLargestCactus E) found
    chosen_largest range h found e = are_corners (IsLargestCactus E) found e
        (largest_cactus S F two n t.triples E t.triangles range L (of_triangles (λ p. IsLargest S p L) h))
