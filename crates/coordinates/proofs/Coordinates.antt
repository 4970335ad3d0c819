-- Over a basis each vector has coordinates, and only one list of them.
use Rattle.std.proofs.Common.{◌≡◌, ℕ, List, arith}
use Rattle.vector_spaces.proofs.Members.{all-In, In-all}
use Rattle.linear_algebra.specs.Scalars.{Scalars, IsField}
use Rattle.linear_algebra.specs.Vectors.{IsVector}
use Rattle.linear_algebra.specs.Spans.{Combines, InSpan}
use Rattle.linear_algebra.proofs.IndependenceLaws.{same_length_spans, unique_coefficients}
use Rattle.linear_algebra.proofs.SpanLaws.{span_through}
use Rattle.coordinates.specs.Bases.{IsBasis, unit_vectors}
use Rattle.coordinates.proofs.Units.{length-units, units_basis, units_combine}

module _ (S : Scalars) (F : IsField S) (d : ℕ) (vs : List (List ℕ)) (b : IsBasis S d vs) where
  spanned_by_units : (x : List ℕ) → IsVector S d x → InSpan S d (unit_vectors S d) x
  spanned_by_units x h = record { coefficients = x; combine = units_combine S F d x h }

  pub basis_spans : (x : List ℕ) → IsVector S d x → InSpan S d vs x
  basis_spans x h =
      let us = unit_vectors S d in
      let units = units_basis S F d in
      span_through S F d us vs x units.vectors b.vectors h
      (same_length_spans S F d vs us b.vectors units.vectors b.independent
      (all-In (InSpan S d us) vs (λ v m. spanned_by_units v (In-all (IsVector S d) vs b.vectors v m)))
      (let e = length-units S F d in let f = b.length_is in omega arith))
      (spanned_by_units x h)

  pub one_list : (x cs ds : List ℕ) → Combines S d vs cs x → Combines S d vs ds x → cs ≡ ds
  one_list x cs ds = unique_coefficients S F d vs x cs ds b.vectors b.independent
