-- A basis of the multiples of a vector.
use Rattle.std.proofs.Common.{◌≡◌, ℕ, List, [], ◌∷◌, subst}
use Rattle.std.proofs.lemmas.List.Elements.{All-nil, All-cons}
use Rattle.field_core.specs.Matrix.{Matrix}
use Rattle.linear_algebra.specs.Scalars.{Scalars, IsField}
use Rattle.linear_algebra.specs.Vectors.{IsVector, AreVectors}
use Rattle.linear_algebra.proofs.Combinations.{span_vector}
use Rattle.linear_algebra.proofs.SpanLaws.{span_through}
use Rattle.echelon.specs.Grown.{IsBasisOf}
use Rattle.exchanges.specs.Spans.{HasSpan}

pub basis_has_span : (S : Scalars) → IsField S → (d : ℕ) (v : List ℕ) (rows basis : Matrix) → IsVector S d v →
    rows ≡ record { width = d; rows = v ∷ [] } → IsBasisOf S rows basis → HasSpan S d (v ∷ []) basis
basis_has_span S F d v rows basis h e b = go (subst (λ (m : Matrix). IsBasisOf S m basis) e b)
  where
    go : IsBasisOf S (record { width = d; rows = v ∷ [] }) basis → HasSpan S d (v ∷ []) basis
    go k =
        let one : AreVectors S d (v ∷ []) = All-cons (IsVector S d) v [] h (All-nil (IsVector S d)) in
        record {
          width = k.width;
          span = λ x. (
            λ c. span_through S F d basis.rows (v ∷ []) x k.vectors_in one (span_vector S F d basis.rows x k.vectors_in c) k.within c,
            λ c. span_through S F d (v ∷ []) basis.rows x one k.vectors_in (span_vector S F d (v ∷ []) x one c) k.spans c,
          );
        }
