-- An exposed line over tuples: its support, by tips that are lists of numbers.
use Rattle.std.proofs.Common.{◌≡◌, ℕ, ◌<◌, inl, List, [], ◌∷◌, length, refl, sym, ap, ◌∙◌, subst}
use Rattle.vector_spaces.proofs.Space.{Space}
use Rattle.vector_spaces.proofs.Span.{InSpan as InSpan_of}
use Rattle.vector_spaces.proofs.Tuples.{Tuple}
use Rattle.linear_algebra.specs.Scalars.{Scalars, IsField}
use Rattle.linear_algebra.specs.Spans.{InSpan}
use Rattle.linear_algebra.proofs.Coordinates.{tuple, space, list, list-vector, tuple-list}
use Rattle.linear_algebra.proofs.Elements.{Element, scalar_field}
use Rattle.linear_algebra.proofs.VectorLaws.{tuple-zero}
use Rattle.matching_state.specs.Overlaps.{InSupport}
use Rattle.matching_state.specs.LinePlaces.{IsExposed, IsTip}
use Rattle.matching_state.proofs.Ties.{span_from, one_line, coordinates_vector, component_of_support, exposed_of, exposed_ranks}
use Rattle.matching_state.proofs.Tips.{outer_of}
use Rattle.parity_lines.proofs.Border.{tuples_at}
use Rattle.parity_lines.specs.LineSets.{IsIndependentSet}
use Rattle.parity_lines.specs.Problems.{ParityProblem, IsProblem, vectors_at}
use Rattle.parity_theory.proofs.Exposure.{Exposed, tip_in_span, same_support}
use Rattle.parity_theory.proofs.Lines.{vectors}
use Rattle.parity_theory.proofs.Places.{exposed_of_tip}
use Rattle.parity_theory.proofs.Supports.{InSupport as InSupport_of}

module _ (S : Scalars) (F : IsField S) (p : ParityProblem) (P : IsProblem S p) (M : List ℕ) (i : IsIndependentSet S p M) (e : ℕ)
    (h : e < length p.lines) where
  abbrev sp : Space (scalar_field S F) (Tuple (Element S) p.dimension)
  sp = space S F p.dimension

  abbrev line : ℕ → Tuple (Element S) p.dimension × Tuple (Element S) p.dimension
  line = tuples_at S F p

  module _ (tip outer : Tuple (Element S) p.dimension) (cs : List (Element S × Element S)) (x : Exposed sp line M e tip outer cs) where
    pub exposed_of_tuples : IsExposed S p M e
    exposed_of_tuples = exposed_ranks S F p P M e i h (exposed_of_tip sp line M e tip outer cs x)

    abbrev numbers : List ℕ
    numbers = list S p.dimension tip

    same : tuple S F p.dimension numbers ≡ tip
    same = tuple-list S F p.dimension tip

    in_set : InSpan S p.dimension (vectors_at p M) numbers
    in_set = span_from S F p P M numbers i.line_set.within (list-vector S p.dimension tip)
        (subst (λ t. InSpan_of sp (vectors line M) t) (sym same) (tip_in_span sp line M e tip outer cs x))

    is_tip : IsTip S p M e numbers in_set.coefficients
    is_tip = record {
      in_line = span_from S F p P (e ∷ []) numbers (one_line S F p P e h) (list-vector S p.dimension tip)
          (subst (λ t. InSpan_of sp (vectors line (e ∷ [])) t) (sym same) (x.tip_outer_in.each tip (inl refl)));
      combines = in_set.combine;
      not_zero = λ z. x.tip≢null (sym same ∙ ap (tuple S F p.dimension) z ∙ tuple-zero S F p.dimension);
    }

    -- a line of its support
    pub support_of_tuples : (m : ℕ) → InSupport_of (scalar_field S F) m cs M → InSupport S p M e m
    support_of_tuples m k =
        let o = outer_of S F p P M i e h exposed_of_tuples in
        let y = exposed_of S F p P M e numbers in_set.coefficients o.0 i h is_tip o.1 in (
          numbers,
          in_set.coefficients,
          is_tip,
          component_of_support S F p P M in_set.coefficients m (coordinates_vector S F p P M in_set.coefficients numbers in_set.combine)
              (same_support sp line M e tip outer cs x _ _ _ y m k),
        )
