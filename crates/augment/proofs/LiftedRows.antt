-- The rows of a lifted kernel, one after the other.
use Rattle.std.proofs.Common.{◌≡◌, ◌≢◌, ℕ, suc, ◌⊎◌, inl, inr, List, ◌∷◌, length, map, sym, ap, ap₂, ◌∙◌, arith}
use Rattle.std.proofs.lemmas.List.{take_all}
use Rattle.linear_algebra.specs.Scalars.{Scalars}
use Rattle.quotient_spaces.specs.Projections.{IsFirstPivot, lifted}
use Rattle.augment.specs.Divided.{IsLiftedFrom, IsLiftedUpTo}
use Rattle.linear_algebra.specs.Vectors.{zero_vector}
use Rattle.parity_lines.specs.declared.answer.Certificate.{Certificate}
use Rattle.quotient_spaces.proofs.Pivots.{pivot_or_zero}

-- a certificate with all rows lifted
pub lifted_certificate : {X : Type 0} (S : Scalars) (point : List ℕ) (b c : Certificate X) → point ≢ zero_vector S (length point) →
    suc b.kernel.width ≡ length point → IsLiftedUpTo S point b.kernel (length b.kernel.rows) c.kernel → c.parts ≡ b.parts →
    IsLiftedFrom S point b c
lifted_certificate S point b c z w h e = go (pivot_or_zero S point)
  where
    go : ((i : ℕ) × IsFirstPivot S point i) ⊎ (point ≡ zero_vector S (length point)) → IsLiftedFrom S point b c
    go (inl r) = record {
      pivot = r.0;
      first = r.1;
      kernel = ap₂ (λ k (rs : List (List ℕ)). record { width = k; rows = rs }) (h.width ∙ sym w)
          (h.rows r.0 r.1 ∙ ap (λ rs. point ∷ map (lifted S r.0) rs) (take_all (length b.kernel.rows) b.kernel.rows (omega arith)));
      parts = e;
    }
    go (inr e') = absurd (z e')
