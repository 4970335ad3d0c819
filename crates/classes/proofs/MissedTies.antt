-- Vectors of lines that aren't zero or are missed, members that miss a vector, and the separators that a table tells.
use Rattle.std.proofs.Common.{◌≡◌, ◌≢◌, ℕ, ◌<◌, inl, inr, List, [], ◌∷◌, length, get_or, sym, ◌∙◌, subst, Bool, true, false, ◌&&◌, Option, None, Some}
use Rattle.std.specs.Option.{is_none}
use Rattle.std.proofs.lemmas.Bool.{true≢false}
use Rattle.families.specs.Families.{IsFamily, IsFirstMissing, SetFamily}
use Rattle.linear_algebra.specs.Scalars.{Scalars, IsField}
use Rattle.linear_algebra.specs.Spans.{InSpan}
use Rattle.linear_algebra.specs.Vectors.{IsVector, zero_vector}
use Rattle.linear_algebra.proofs.Coordinates.{space}
use Rattle.linear_algebra.proofs.IndependenceLaws.{independent_push, pushed_is_outside}
use Rattle.matching_state.specs.Missing.{Misses}
use Rattle.parity_lines.proofs.Border.{tuples_at, vectors_at-vectors}
use Rattle.parity_lines.proofs.LinePairs.{line_at_vectors}
use Rattle.parity_lines.specs.LineSets.{IsIndependentSet}
use Rattle.parity_lines.specs.Problems.{ParityProblem, IsProblem, line_at, vectors_at}
use Rattle.classes.specs.Missed.{AreSeparated, IsMissedOf, IsMissing, IsNonzeroOf, IsSeparator}
use Rattle.classes.specs.Tables.{IsTableOf, Separators, TellsSeparator, live_at, separator_at}

module _ (S : Scalars) (p : ParityProblem) (l : ℕ) where
  pub nonzero_first : (v : List ℕ) → v ≡ (line_at p l).0 → v ≢ zero_vector S p.dimension → IsNonzeroOf S p l v
  nonzero_first v e n = record { of_line = inl e; not_zero = n }

  -- where the first vector is zero
  pub nonzero_second : (v : List ℕ) → v ≡ (line_at p l).1 → (line_at p l).0 ≡ zero_vector S p.dimension →
      (w : List ℕ) × IsNonzeroOf S p l w → IsNonzeroOf S p l v
  nonzero_second v e z (w, q) = elim q.of_line [
    | inl d ↦ absurd (q.not_zero (d ∙ z))
    | inr d ↦ record { of_line = inr e; not_zero = λ y. q.not_zero (d ∙ sym e ∙ y) }
  ]

module _ (S : Scalars) (F : IsField S) (p : ParityProblem) (P : IsProblem S p) (M : List ℕ) (i : IsIndependentSet S p M) where
  pub missed_of_outside : (v : List ℕ) → IsVector S p.dimension v → ¬ (InSpan S p.dimension (vectors_at p M) v) → Misses S p M (v ∷ [])
  missed_of_outside v w n = independent_push S F p.dimension (vectors_at p M) v (vectors_at-vectors S p P M i.line_set.within) w i.independent n

  module _ (l : ℕ) (h : l < length p.lines) where
    pub missed_first : (v : List ℕ) → v ≡ (line_at p l).0 → ¬ (InSpan S p.dimension (vectors_at p M) v) → IsMissedOf S p M l v
    missed_first v e n = record {
      of_line = inl e;
      missed = missed_of_outside v (subst (IsVector S p.dimension) (sym e) (line_at_vectors S p l P h).0) n;
    }

    -- where M spans the first vector
    pub missed_second : (v u : List ℕ) → v ≡ (line_at p l).1 → u ≡ (line_at p l).0 → InSpan S p.dimension (vectors_at p M) u →
        (w : List ℕ) × IsMissedOf S p M l w → IsMissedOf S p M l v
    missed_second v u e a c (w, q) = elim q.of_line [
      | inl d ↦ absurd (pushed_is_outside S F p.dimension (vectors_at p M) w (vectors_at-vectors S p P M i.line_set.within)
          (subst (IsVector S p.dimension) (sym d) (line_at_vectors S p l P h).0) q.missed
          (subst (InSpan S p.dimension (vectors_at p M)) (a ∙ sym d) c))
      | inr d ↦ record { of_line = inr e; missed = subst (λ x. Misses S p M (x ∷ [])) (d ∙ sym e) q.missed }
    ]

pub missing_member : (S : Scalars) (F : IsField S) (f : SetFamily) → IsProblem S f.problem → IsFamily S f → (v : List ℕ) → IsVector S f.problem.dimension v →
    (m : ℕ) → IsFirstMissing S f v m → IsMissing S f v m
missing_member S F f P k v w m q = record {
  within = q.within;
  missed = missed_of_outside S F f.problem P (get_or f.sets m []) (k.independent m [] q.within) v w q.outside;
}

no_separator : (a b : Bool) (o : Option ℕ) → a ≡ true → b ≡ true → o ≡ None → (a && b && is_none o) ≡ false → ⊥
no_separator a b o p q r e =
    let x : (true && b && is_none o) ≡ false = subst (λ c. (c && b && is_none o) ≡ false) p e in
    let y : (true && true && is_none o) ≡ false = subst (λ c. (true && c && is_none o) ≡ false) q x in
    true≢false (subst (λ c. (true && true && is_none c) ≡ false) r y)

-- two live lines that aren't akin have a separator
pub separator_is_some : (t : Separators) (i j : ℕ) → AreSeparated t i j → separator_at t i j ≡ None → ⊥
separator_is_some t i j q e = no_separator (live_at t i) (live_at t j) (separator_at t i j) q.first_live q.second_live e q.not_akin

pub separator_told : (S : Scalars) (F : IsField S) (f : SetFamily) (t : Separators) → IsTableOf S F f.problem f.sets t → (i j : ℕ) →
    i < length f.problem.lines → j < length f.problem.lines → (m : ℕ) → separator_at t i j ≡ Some m → IsSeparator S F f i j m
separator_told S F f t h i j a b m e =
    let w : TellsSeparator (space S F f.problem.dimension) (tuples_at S F f.problem) f.sets i j (Some m) =
    subst (TellsSeparator (space S F f.problem.dimension) (tuples_at S F f.problem) f.sets i j) e (h.tells i j a b) in
    record { within = w.0; wide = w.1 }
