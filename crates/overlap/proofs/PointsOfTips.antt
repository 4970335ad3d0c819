-- The point of two tips is the point of an overlap: it isn't zero, and each dependent set of lines spans it.
use Rattle.std.proofs.Common.{◌≡◌, ℕ, ◌+◌, ◌*◌, ◌/◌, ◌<◌, inl, inr, List, ◌∷◌, All, length, sym, ap, ap₂, ◌∙◌, subst, arith}
use Rattle.vector_spaces.proofs.Distinct.{increasing_distinct}
use Rattle.vector_spaces.proofs.Members.{In, contains-In, In-contains}
use Rattle.vector_spaces.proofs.Space.{Space}
use Rattle.vector_spaces.proofs.Tuples.{Tuple}
use Rattle.linear_algebra.specs.Scalars.{Scalars, IsScalar, IsField}
use Rattle.linear_algebra.specs.Vectors.{IsVector}
use Rattle.linear_algebra.proofs.Combinations.{combination-vector}
use Rattle.linear_algebra.proofs.Coordinates.{tuple, space, element}
use Rattle.linear_algebra.proofs.Elements.{Element, scalar_field}
use Rattle.linear_algebra.proofs.VectorLaws.{tuple-zero}
use Rattle.matching_state.specs.Overlaps.{IsOverlap}
use Rattle.matching_state.specs.LinePlaces.{IsTip}
use Rattle.matching_state.proofs.DeterminantTies.{entry}
use Rattle.matching_state.proofs.OneStep.{independent_by_tuples}
use Rattle.matching_state.proofs.Ties.{pairs, combining, span_from}
use Rattle.overlap.specs.PointedOverlaps.{IsPoint}
use Rattle.overlap.specs.Points.{IsPointOf}
use Rattle.overlap.proofs.KeptTies.{times_of_number, kept_ties}
use Rattle.overlap.proofs.OverlapTies.{overlap_at, first_coordinates, second_coordinates}
use Rattle.parity_lines.proofs.Border.{vectors_at-vectors, tuples_at}
use Rattle.parity_lines.specs.LineSets.{IsIndependentSet}
use Rattle.parity_lines.specs.Problems.{ParityProblem, IsProblem, vectors_at}
use Rattle.parity_theory.proofs.Lines.{line_combination}
use Rattle.parity_theory.proofs.OverlapPoints.{OverlapPoint, point_not_null, dependent_distinct_lines}
use Rattle.parity_theory.proofs.Ratios.{at_ratio}

module _ (S : Scalars) (F : IsField S) (p : ParityProblem) (P : IsProblem S p) (M : List ℕ) (i : IsIndependentSet S p M) (e h : ℕ)
    (in_e : e < length p.lines) (in_h : h < length p.lines) (v : IsOverlap S p M e h) (tip cs tip' cs' : List ℕ) (t : IsTip S p M e tip cs)
    (t' : IsTip S p M h tip' cs') (point : List ℕ) (x : IsPointOf S p M cs cs' point) where
  abbrev sp : Space (scalar_field S F) (Tuple (Element S) p.dimension)
  sp = space S F p.dimension

  abbrev line : ℕ → Tuple (Element S) p.dimension × Tuple (Element S) p.dimension
  line = tuples_at S F p

  c : IsVector S (2 * length M) cs
  c = first_coordinates S F p P M i e h in_e in_h v tip cs tip' cs' t t'

  d : IsVector S (2 * length M) cs'
  d = second_coordinates S F p P M i e h in_e in_h v tip cs tip' cs' t t'

  length-kept : length x.kept ≡ 2 * length M
  length-kept = x.are_kept.length_is ∙ ap (λ n. 2 * (n / 2)) c.length_is ∙ omega arith

  ties : (pairs S F x.kept ≡ at_ratio (scalar_field S F) (element S F x.ratio) (pairs S F cs) (pairs S F cs')) × All (IsScalar S) x.kept
  ties = kept_ties S F x.ratio x.is_scalar (length M) cs cs' x.kept c.length_is d.length_is length-kept c.entries d.entries
      (λ k l. x.are_kept.each k (let n = length-kept in omega arith))

  coefficients : IsVector S (2 * length M) x.kept
  coefficients = record { length_is = length-kept; entries = ties.1 }

  point_tuple : OverlapPoint sp line M e h (tuple S F p.dimension point)
  point_tuple =
      let w = x.both.within in
      let k = x.index in
      let n : 2 * k + 1 < 2 * length M = let l = c.length_is in omega arith in
      let first : IsScalar S _ = entry S F (2 * length M) k cs cs c c n cs (2 * k) c (omega arith) in
      let second : IsScalar S _ = entry S F (2 * length M) k cs cs c c n cs (2 * k + 1) c (omega arith) in
      record {
        overlap = overlap_at S F p P M i e h in_e in_h v tip cs tip' cs' t t' k x.both;
        ratio = element S F x.ratio;
        proportional = ap₂ (λ a b. (a, b)) (times_of_number S F x.ratio x.is_scalar _ _ first x.is_ratio.0)
            (times_of_number S F x.ratio x.is_scalar _ _ second x.is_ratio.1);
        combines = ap (λ es. line_combination sp line es M) (sym ties.0)
            ∙ combining S F p P M x.kept i.line_set.within coefficients ∙ ap (tuple S F p.dimension) (sym x.combines);
      }

  vector : IsVector S p.dimension point
  vector = subst (IsVector S p.dimension) (sym x.combines)
      (combination-vector S F p.dimension x.kept (vectors_at p M) ties.1 (vectors_at-vectors S p P M i.line_set.within))

  pub is_point : IsPoint S p M e h point
  is_point = record {
    vector = vector;
    not_zero = λ z. point_not_null sp line M e h (tuple S F p.dimension point) point_tuple
        (ap (tuple S F p.dimension) z ∙ tuple-zero S F p.dimension);
    spanned = λ Y l among n. span_from S F p P Y point l.within vector
        (dependent_distinct_lines sp line M e h (tuple S F p.dimension point) point_tuple Y
        (λ m j. elim (among m (contains-In Y m j)) as (λ _. In m (e ∷ h ∷ M)) [
          | inl k ↦ inr (inr (In-contains M m k))
          | inr k ↦ elim k as (λ _. In m (e ∷ h ∷ M)) [ inl q ↦ inl q | inr q ↦ inr (inl q) ]
        ])
        (increasing_distinct Y l.increasing) (λ j. n (independent_by_tuples S F p P M i Y l j).independent));
  }
