-- Where a vector of a span leads.
use Rattle.std.proofs.Common.{◌≡◌, ◌≢◌, ℕ, ◌<◌, ◌⊎◌, inl, inr, List, get_or, sym, ap, ◌∙◌, subst, arith}
use Rattle.std.proofs.lemmas.List.{get_or_default, get_or-replicate}
use Rattle.std.proofs.Math.Decide.{ℕ_discrete}
use Rattle.linear_algebra.specs.Scalars.{Scalars, IsField}
use Rattle.linear_algebra.specs.Spans.{InSpan}
use Rattle.linear_algebra.specs.Vectors.{IsVector, zero_vector}
use Rattle.echelon.specs.Leads.{LeadsAt}
use Rattle.echelon.specs.Residues.{IsLeading}
use Rattle.quotient_spaces.specs.Projections.{IsFirstPivot}
use Rattle.quotient_spaces.proofs.Pivots.{pivot_or_zero}
use Rattle.quotients.specs.Reductions.{IsRowAt}

module _ (S : Scalars) where
  pub leads_at_pivot : (v : List ℕ) (i : ℕ) → IsFirstPivot S v i → LeadsAt S v i
  leads_at_pivot v i h = record {
    within = h.pivot.in_range;
    not_zero = λ e. h.pivot.not_zero (get_or_default v i S.zero 0 h.pivot.in_range ∙ e);
    zero_before = λ k l. let r = h.pivot.in_range in get_or_default v k 0 S.zero (omega arith) ∙ h.zeros_before k l;
  }

  pub leads_or_zero : (d : ℕ) (v : List ℕ) → IsVector S d v → ((p : ℕ) × LeadsAt S v p) ⊎ (v ≡ zero_vector S d)
  leads_or_zero d v h = elim (pivot_or_zero S v) [ inl r ↦ inl (r.0, leads_at_pivot v r.0 r.1) | inr e ↦ inr (e ∙ ap (zero_vector S) h.length_is) ]

  -- a vector of the span that is zero wherever the span leads is zero
  pub zero_of_leading : (d : ℕ) (vs : List (List ℕ)) (v : List ℕ) → IsVector S d v → InSpan S d vs v → ((p : ℕ) → IsLeading S d vs p → get_or v p 0 ≡ S.zero) → v ≡ zero_vector S d
  zero_of_leading d vs v h i z = elim (leads_or_zero d v h) [ inl r ↦ absurd (r.1.not_zero (z r.0 (record { leader = v; vector = h; in_span = i; leads = r.1 }))) | inr e ↦ e ]

module _ (S : Scalars) (F : IsField S) (d : ℕ) (vs : List (List ℕ)) (p : ℕ) (u : List ℕ) (r : IsRowAt S d vs p u) where
  -- a row at p that isn't zero leads there
  pub row_leads : u ≢ zero_vector S d → LeadsAt S u p
  row_leads n = elim (leads_or_zero S d u r.vector) [ inl l ↦ go l (ℕ_discrete l.0 p) | inr e ↦ absurd (n e) ]
    where
      go : (l : (q : ℕ) × LeadsAt S u q) → Dec (l.0 ≡ p) → LeadsAt S u p
      go l (yes e) = subst (LeadsAt S u) e l.1
      go l (no m) = absurd (l.1.not_zero (r.zero l.0 (record { leader = u; vector = r.vector; in_span = r.in_span; leads = l.1 }) m))

  -- and where it is zero, the span doesn't lead there
  pub row_zero : u ≡ zero_vector S d → ¬ (IsLeading S d vs p)
  row_zero e k = F.one≢zero (sym (r.one k) ∙ ap (λ v. get_or v p 0) e ∙ get_or-replicate d p S.zero 0 (subst (λ n. p < n) k.vector.length_is k.leads.within))
