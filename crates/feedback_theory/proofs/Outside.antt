-- The edges with no end in a set of vertices.
use Rattle.std.proofs.Common.{◌≡◌, ◌≢◌, ℕ, ◌+◌, ◌≤◌, List, sym, ◌∙◌, arith}
use Rattle.std.proofs.Math.Decide.{ℕ_discrete}
use Rattle.edge_lists.specs.Occurrences.{count}
use Rattle.edge_lists.proofs.Occurrences.{count-kept, count-not_kept, keep_single, kept_passes}
use Rattle.feedback_theory.specs.FeedbackSets.{outside}

module _ (ends : ℕ → ℕ × ℕ) (H : List ℕ) where
  abbrev touch : List ℕ → ℕ → ℕ
  touch X e = count (ends e).0 X + count (ends e).1 X

  pub outside_from : (X : List ℕ) (e : ℕ) → 1 ≤ count e (outside ends H X) → (touch X e ≡ 0) × (1 ≤ count e H)
  outside_from X e i = kept_passes (touch X) e H i

  pub count-outside : (X : List ℕ) (e : ℕ) → touch X e ≡ 0 → count e (outside ends H X) ≡ count e H
  count-outside X e z = count-kept (touch X) e H z

  pub count-not_outside : (X : List ℕ) (e : ℕ) → touch X e ≢ 0 → count e (outside ends H X) ≡ 0
  count-not_outside X e n = count-not_kept (touch X) e H n

  pub outside_single : (X : List ℕ) → ((e : ℕ) → count e H ≤ 1) → (e : ℕ) → count e (outside ends H X) ≤ 1
  outside_single X single = keep_single (touch X) H single

  pub outside_less : (X X' : List ℕ) → ((c : ℕ) → count c X' ≤ count c X) → (e : ℕ) → 1 ≤ count e (outside ends H X)
      → 1 ≤ count e (outside ends H X')
  outside_less X X' h e i = let r = outside_from X e i in
      omega (arith, r.1, count-outside X' e (omega (arith, r.0, h (ends e).0, h (ends e).1)))

  -- what is outside depends on the members alone
  pub outside_same : (X X' : List ℕ) → ((c : ℕ) → 1 ≤ count c X' → 1 ≤ count c X) → ((c : ℕ) → 1 ≤ count c X → 1 ≤ count c X') → (e : ℕ)
      → count e (outside ends H X) ≡ count e (outside ends H X')
  outside_same X X' h k e = go (ℕ_discrete (touch X e) 0) (ℕ_discrete (touch X' e) 0)
    where
      zero_in : (Y Y' : List ℕ) → ((c : ℕ) → 1 ≤ count c Y' → 1 ≤ count c Y) → (c : ℕ) → count c Y ≡ 0 → count c Y' ≡ 0
      zero_in Y Y' h c z = pick (ℕ_discrete (count c Y') 0)
        where
          pick : Dec (count c Y' ≡ 0) → count c Y' ≡ 0
          pick (yes y) = y
          pick (no n) = absurd (omega (arith, z, h c (omega (arith, n))))

      left : touch X e ≡ 0 → touch X' e ≡ 0
      left z = omega (arith, zero_in X X' h (ends e).0 (omega (arith, z)), zero_in X X' h (ends e).1 (omega (arith, z)))

      right : touch X' e ≡ 0 → touch X e ≡ 0
      right z = omega (arith, zero_in X' X k (ends e).0 (omega (arith, z)), zero_in X' X k (ends e).1 (omega (arith, z)))

      go : Dec (touch X e ≡ 0) → Dec (touch X' e ≡ 0) → count e (outside ends H X) ≡ count e (outside ends H X')
      go (yes z) d = count-outside X e z ∙ sym (count-outside X' e (left z))
      go (no n) (yes y) = absurd (n (right y))
      go (no n) (no m) = count-not_outside X e n ∙ sym (count-not_outside X' e m)
