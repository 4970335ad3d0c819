-- An independent set misses a vector that it does not span.
use Rattle.std.proofs.Common.{◌≡◌, ℕ, List, [], ◌∷◌, Option, None, MatchOption, subst}
use Rattle.std.proofs.lemmas.List.Elements.{All-nil, All-cons}
use Rattle.vector_spaces.proofs.Independence.{append_outside}
use Rattle.linear_algebra.specs.Scalars.{Scalars, IsField}
use Rattle.linear_algebra.specs.Spans.{InSpan}
use Rattle.linear_algebra.specs.Vectors.{IsVector}
use Rattle.linear_algebra.proofs.Coordinates.{tuple, space}
use Rattle.matching_state.specs.Missing.{Misses}
use Rattle.matching_state.proofs.Ties.{span_from, misses_from}
use Rattle.parity_lines.proofs.Border.{tuples_at, independent_lines}
use Rattle.parity_lines.specs.LineSets.{IsIndependentSet}
use Rattle.parity_lines.specs.Problems.{ParityProblem, IsProblem, vectors_at}
use Rattle.parity_theory.proofs.Lines.{vectors}

pub missed_alone : (S : Scalars) → IsField S → (p : ParityProblem) → IsProblem S p → (M x : List ℕ) → IsIndependentSet S p M →
    IsVector S p.dimension x → ¬ (InSpan S p.dimension (vectors_at p M) x) → Misses S p M (x ∷ [])
missed_alone S F p P M x i v n = misses_from S F p P M (x ∷ []) i.line_set.within
    (All-cons (IsVector S p.dimension) x [] v (All-nil (IsVector S p.dimension)))
    (append_outside (space S F p.dimension) (vectors (tuples_at S F p) M) (tuple S F p.dimension x)
    (independent_lines S F p P M i.line_set.within i.independent) (λ c. n (span_from S F p P M x i.line_set.within v c)))

-- the same, where the search for coordinates of y over the problem q found none
pub missed_where_none : (S : Scalars) → IsField S → (p q : ParityProblem) → q ≡ p → (M x y : List ℕ) → y ≡ x → IsProblem S p →
    IsIndependentSet S q M → IsVector S p.dimension x → (Q : List ℕ → Type 0) → (found : Option (List ℕ)) → found ≡ None →
    MatchOption found (¬ (InSpan S q.dimension (vectors_at q M) y)) Q → Misses S p M (x ∷ [])
missed_where_none S F p q e M x y f P i v Q found none m =
    let outside = subst (λ r. MatchOption r (¬ (InSpan S q.dimension (vectors_at q M) y)) Q) none m in
    let same = subst (λ (r : ParityProblem). ¬ (InSpan S r.dimension (vectors_at r M) y)) e outside in
    missed_alone S F p P M x (subst (λ r. IsIndependentSet S r M) e i) v (subst (λ (z : List ℕ). ¬ (InSpan S p.dimension (vectors_at p M) z)) f same)
