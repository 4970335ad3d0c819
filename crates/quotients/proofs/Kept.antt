-- What a subspace keeps, from a basis of vectors and its reduction.
use Rattle.std.proofs.Common.{◌≡◌, ℕ, List, sym, ◌∙◌, subst, All, Bool, IsTrue}
use Rattle.std.specs.Prelude.{◌↔◌}
use Rattle.vector_spaces.proofs.Members.{all-In}
use Rattle.field_core.specs.Matrix.{Matrix}
use Rattle.linear_algebra.specs.Scalars.{Scalars, IsField}
use Rattle.linear_algebra.specs.Spans.{InSpan, IsIndependent}
use Rattle.linear_algebra.specs.Vectors.{AreVectors}
use Rattle.linear_algebra.proofs.Combinations.{span_vector, spanned_vectors}
use Rattle.linear_algebra.proofs.SpanLaws.{span_through, span_member}
use Rattle.echelon.specs.Grown.{IsBasisOf}
use Rattle.quotients.specs.ReducedBases.{IsReducedBasis}
use Rattle.quotients.specs.Reductions.{IsReductionOf}
use Rattle.quotients.specs.Subspaces.{HasElements, IsKept}

module _ (S : Scalars) (F : IsField S) where
  module _ (vectors span basis : Matrix) (b : IsBasisOf S vectors span) (r : IsReductionOf S span.width span.rows basis) where
    abbrev d : ℕ
    d = vectors.width

    reduction : IsReductionOf S d span.rows basis
    reduction = subst (λ n. IsReductionOf S n span.rows basis) b.width r

    spanned : All (InSpan S d basis.rows) span.rows
    spanned = all-In (InSpan S d basis.rows) span.rows (λ x i. reduction.spans x (span_member S F d span.rows x b.vectors_in i))

    pub is_kept : IsKept S basis span
    is_kept =
        let w = sym reduction.width in
        record {
          reduced = subst (λ n. IsReducedBasis S n basis.rows) w reduction.reduced;
          same = record {
            width = b.width ∙ w;
            independent = subst (λ n. IsIndependent S n span.rows) w b.independent;
            vectors_in = subst (λ n. AreVectors S n span.rows) w b.vectors_in;
            spans = subst (λ n. All (InSpan S n span.rows) basis.rows) w reduction.within;
            within = subst (λ n. All (InSpan S n basis.rows) span.rows) w spanned;
          };
        }

    -- the elements of the reduced basis are those of the vectors
    pub has_elements : (n : ℕ) → vectors.width ≡ n → HasElements S basis (InSpan S n vectors.rows)
    has_elements n e = subst (λ m. HasElements S basis (InSpan S m vectors.rows)) e
        (λ x. subst (λ m. InSpan S m basis.rows x ↔ InSpan S d vectors.rows x) (sym reduction.width) (
          λ h. let k = span_through S F d basis.rows span.rows x reduction.reduced.vectors b.vectors_in (span_vector S F d basis.rows x reduction.reduced.vectors h) reduction.within h in
              span_through S F d span.rows vectors.rows x b.vectors_in vectors_in (span_vector S F d span.rows x b.vectors_in k) b.within k,
          λ h. reduction.spans x (span_through S F d vectors.rows span.rows x vectors_in b.vectors_in (span_vector S F d vectors.rows x vectors_in h) b.spans h),
        ))
      where
        vectors_in : AreVectors S d vectors.rows
        vectors_in = spanned_vectors S F d span.rows vectors.rows b.vectors_in b.spans

  -- the elimination has the span of the basis
  pub same_span : (basis span : Matrix) (x : List ℕ) → IsKept S basis span → InSpan S span.width span.rows x ↔ InSpan S basis.width basis.rows x
  same_span basis span x k =
      let b = k.same in
      let d = basis.width in
      let rows_in = k.reduced.vectors in
      subst (λ n. InSpan S n span.rows x ↔ InSpan S d basis.rows x) (sym b.width) (
        λ h. span_through S F d span.rows basis.rows x b.vectors_in rows_in (span_vector S F d span.rows x b.vectors_in h) b.within h,
        λ h. span_through S F d basis.rows span.rows x rows_in b.vectors_in (span_vector S F d basis.rows x rows_in h) b.spans h,
      )

  -- as another basis, to which it is equal
  pub tells_membership : (basis span self : Matrix) (x : List ℕ) (b : Bool) → IsKept S basis span → basis ≡ self → IsTrue b ↔ InSpan S span.width span.rows x → IsTrue b ↔ InSpan S self.width self.rows x
  tells_membership basis span self x b k e t = subst (λ (m : Matrix). IsTrue b ↔ InSpan S m.width m.rows x) e (let s = same_span basis span x k in (λ h. s.0 (t.0 h), λ h. t.1 (s.1 h)))
