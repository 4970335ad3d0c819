-- In tuples over a finite field nothing need be supposed: each independent set of k lines belongs to a family with its core.
use Rattle.std.proofs.Common.{◌≡◌, ◌≢◌, ℕ, zero, suc, ◌≤◌, ◌⊎◌, List, refl}
use Rattle.augmentation_theory.proofs.MinMax.{min_max}
use Rattle.augmentation_theory.proofs.Missing.{MissingSet, kernel_or_missing}
use Rattle.vector_spaces.proofs.TupleQuotients.{quotient_of_tuples}
use Rattle.class_theory.proofs.LinesBelow.{IsLineSet}
use Rattle.core_theory.proofs.Core.{Core, core_of_set}
use Rattle.augmentation_theory.proofs.Certified.{KernelHas}
use Rattle.parity_theory.proofs.Lines.{vectors}
use Rattle.vector_spaces.proofs.Independence.{IsIndependent}
use Rattle.vector_spaces.proofs.Space.{Field}
use Rattle.vector_spaces.proofs.Tuples.{Tuple, tuples}

module _ {K : Type 0} (f : Field K) (d : ℕ) (line : ℕ → Tuple K d × Tuple K d) (n k : ℕ)
    (beyond : (i : ℕ) → n ≤ i → (line i).0 ≡ (tuples f d).null)
    (M : List ℕ) (a : IsLineSet n k M) (i : IsIndependent (tuples f d) (vectors line M)) where
  pub tuple_core : Core (tuples f d) line n k
  tuple_core = core_of_set (tuples f d) line n k (λ p z. at_point d line beyond a i p z) M a i
    where
      -- a point lies in the kernel of a certificate of bound k, or a set of k lines misses it
      at_point : (d : ℕ) (line : ℕ → Tuple K d × Tuple K d) → ((i : ℕ) → n ≤ i → (line i).0 ≡ (tuples f d).null) →
          IsLineSet n k M → IsIndependent (tuples f d) (vectors line M) → (p : Tuple K d) → p ≢ (tuples f d).null →
          KernelHas (tuples f d) line n k p ⊎ MissingSet (tuples f d) line n k p
      at_point zero line beyond a i p z = absurd (z refl)
      at_point (suc d) line beyond a i p z =
          kernel_or_missing (tuples f (suc d)) (tuples f d) p (quotient_of_tuples f d p z) line n k (min_max f d) beyond M a i
