-- The sum of the unit vectors of the two ends of an edge: as a list of scalars, and as a tuple.
use Rattle.std.proofs.Common.{◌≡◌, ℕ, List, length, map, ap, ap₂, ◌∙◌}
use Rattle.linear_algebra.specs.Scalars.{Scalars, IsField}
use Rattle.linear_algebra.specs.Vectors.{IsVector, vector_sum, multiple}
use Rattle.linear_algebra.proofs.Coordinates.{tuple, space}
use Rattle.linear_algebra.proofs.Elements.{scalar_field, same_element, add_elements, one_element, zero_element}
use Rattle.linear_algebra.proofs.VectorLaws.{multiple-one, tuple-sum, vector_sum-vector}
use Rattle.graph_theory.proofs.EdgeVectors.{edge_vector}
use Rattle.graph_theory.proofs.Units.{unit}
use Rattle.graph_problems.specs.GraphLines.{unit_vector}
use Rattle.graph_problems.proofs.UnitVectors.{unit-vector, tuple-unit}
use Rattle.forest_pairs_front.specs.PairLines.{end_sum}

module _ (S : Scalars) (F : IsField S) (n : ℕ) where
  pub end_sum-vector : (e : ℕ × ℕ) → IsVector S n (end_sum S n e)
  end_sum-vector e = vector_sum-vector S F n (unit_vector S n e.0) (unit_vector S n e.1) (unit-vector S F n e.0) (unit-vector S F n e.1)

  pub end_sum-tuple : (e : ℕ × ℕ) → tuple S F n (end_sum S n e) ≡ edge_vector (space S F n) (unit (scalar_field S F) n) e
  end_sum-tuple e = tuple-sum S F n (unit_vector S n e.0) (unit_vector S n e.1) (unit-vector S F n e.0) (unit-vector S F n e.1)
      ∙ ap₂ (space S F n).◌⊕◌ (tuple-unit S F n e.0) (tuple-unit S F n e.1)

  -- a unit vector and one times another are their sum: r are the ends of the edge e as they were read, and m is the number of coordinates
  pub end_sum-added : {X : Type 0} (number : X → ℕ) (r e : ℕ × ℕ) (m one : ℕ) (old new : List ℕ) (us firsts ws seconds : List X)
      → r ≡ e → m ≡ n → one ≡ S.one → new ≡ vector_sum S old (multiple S one (map number ws)) → old ≡ map number us → us ≡ firsts
      → map number firsts ≡ unit_vector S m r.0 → ws ≡ seconds → map number seconds ≡ unit_vector S m r.1 → new ≡ end_sum S n e
  end_sum-added number r e m one old new us firsts ws seconds ends vertices unit_is new_is old_is us_is first ws_is second =
      new_is ∙ ap₂ (vector_sum S) (old_is ∙ ap (map number) us_is ∙ first ∙ ap₂ (unit_vector S) vertices (ap (λ p. p.0) ends))
      (ap₂ (multiple S) unit_is (ap (map number) ws_is ∙ second ∙ ap₂ (unit_vector S) vertices (ap (λ p. p.1) ends))
      ∙ multiple-one S F (unit_vector S n e.1) (unit-vector S F n e.1).entries)

  pub end_sum-long : (e : ℕ × ℕ) (row : List ℕ) → row ≡ end_sum S n e → length row ≡ n
  end_sum-long e row is = ap length is ∙ (end_sum-vector e).length_is

-- one and one are zero, as elements
pub elements_cancel : (S : Scalars) (F : IsField S) → S.sum S.one S.one ≡ S.zero
    → (scalar_field S F).◌⊞◌ (scalar_field S F).one (scalar_field S F).one ≡ (scalar_field S F).zero
unfolding scalar_field add_elements one_element zero_element
elements_cancel S F two = same_element S _ _ two
