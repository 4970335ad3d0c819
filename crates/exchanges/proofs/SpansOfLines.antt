-- Lines spanned by a set with vectors to keep: by numbers, and in the space of tuples.
use Rattle.std.proofs.Common.{◌≡◌, ℕ, ◌<◌, List, ◌++◌, length, sym, ap, ◌∙◌, subst, All}
use Rattle.std.proofs.lemmas.List.{map-append}
use Rattle.std.proofs.lemmas.List.Elements.{All-append}
use Rattle.vector_spaces.proofs.Members.{In-map, In-all, all-In}
use Rattle.vector_spaces.proofs.Within.{Within}
use Rattle.linear_algebra.specs.Scalars.{Scalars, IsField}
use Rattle.linear_algebra.specs.Spans.{InSpan}
use Rattle.linear_algebra.specs.Vectors.{IsVector, AreVectors}
use Rattle.linear_algebra.proofs.Coordinates.{tuple, space}
use Rattle.linear_algebra.proofs.SpanLaws.{within_tuples}
use Rattle.linear_algebra.proofs.Transfer.{tuples_of, span_from_tuples}
use Rattle.exchanges.specs.Exchanges.{AreSpanned}
use Rattle.parity_lines.proofs.Border.{vectors_at-vectors, tuples_at, tuples-vectors_at}
use Rattle.parity_lines.specs.Problems.{ParityProblem, IsProblem, vectors_at}
use Rattle.parity_theory.proofs.Lines.{vectors}

module _ (S : Scalars) (F : IsField S) (p : ParityProblem) (P : IsProblem S p) (M : List ℕ) (keep : List (List ℕ))
    (in_M : All (λ m. m < length p.lines) M) (k : AreVectors S p.dimension keep) where
  -- the set with the vectors to keep
  pub set_with_vectors : AreVectors S p.dimension (vectors_at p M ++ keep)
  set_with_vectors = All-append (IsVector S p.dimension) (vectors_at p M) keep (vectors_at-vectors S p P M in_M) k

  tuples-set_with : tuples_of S F p.dimension (vectors_at p M ++ keep) ≡ vectors (tuples_at S F p) M ++ tuples_of S F p.dimension keep
  tuples-set_with = map-append (tuple S F p.dimension) (vectors_at p M) keep
      ∙ ap (λ ts. ts ++ tuples_of S F p.dimension keep) (tuples-vectors_at S F p M)

  module _ (L : List ℕ) (in_L : All (λ m. m < length p.lines) L) where
    pub within_of_spanned : AreSpanned S p (vectors_at p M ++ keep) L →
        Within (space S F p.dimension) (vectors (tuples_at S F p) L) (vectors (tuples_at S F p) M ++ tuples_of S F p.dimension keep)
    within_of_spanned h = subst (λ ts. Within (space S F p.dimension) ts (vectors (tuples_at S F p) M ++ tuples_of S F p.dimension keep))
        (tuples-vectors_at S F p L)
        (subst (λ ts. Within (space S F p.dimension) (tuples_of S F p.dimension (vectors_at p L)) ts) tuples-set_with
        (within_tuples S F p.dimension (vectors_at p L) (vectors_at p M ++ keep) set_with_vectors h))

    pub spanned_of_within : Within (space S F p.dimension) (vectors (tuples_at S F p) L)
        (vectors (tuples_at S F p) M ++ tuples_of S F p.dimension keep) → AreSpanned S p (vectors_at p M ++ keep) L
    spanned_of_within w =
        let d = p.dimension in
        let all : AreVectors S d (vectors_at p L) = vectors_at-vectors S p P L in_L in
        let w' = subst (λ ts. Within (space S F d) ts (tuples_of S F d (vectors_at p M ++ keep))) (sym (tuples-vectors_at S F p L))
        (subst (λ ts. Within (space S F d) (vectors (tuples_at S F p) L) ts) (sym tuples-set_with) w) in
        all-In (InSpan S d (vectors_at p M ++ keep)) (vectors_at p L)
        (λ v i. span_from_tuples S F d (vectors_at p M ++ keep) v set_with_vectors (In-all (IsVector S d) (vectors_at p L) all v i)
        (w'.each (tuple S F d v) (In-map (tuple S F d) v (vectors_at p L) i)))
