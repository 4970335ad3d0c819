-- What a basis offers, the vectors that it has the span of offer.
use Rattle.std.proofs.Common.{ℕ, ◌<◌, List, ◌++◌, length, All, Option, None, Some, MatchOption}
use Rattle.std.specs.List.{Contains}
use Rattle.std.proofs.lemmas.List.Elements.{All-weaker}
use Rattle.vector_spaces.proofs.Members.{In-append_left, all-In}
use Rattle.field_core.specs.Matrix.{Matrix}
use Rattle.linear_algebra.specs.Scalars.{Scalars, IsField}
use Rattle.linear_algebra.specs.Spans.{InSpan}
use Rattle.linear_algebra.specs.Vectors.{AreVectors}
use Rattle.linear_algebra.proofs.SpanLaws.{span_member}
use Rattle.exchanges.proofs.SpansOfLines.{set_with_vectors}
use Rattle.exchanges.specs.Exchanges.{CanExchange, IsSettled}
use Rattle.exchanges.specs.Offers.{IsOffer, OffersNothing}
use Rattle.exchanges.specs.Spans.{HasSpan}
use Rattle.exchanges.specs.declared.offer.Offer.{Offer}
use Rattle.exchanges.specs.declared.offer.Offer.TheVariants.{Line, Exchange}
use Rattle.parity_lines.specs.Problems.{ParityProblem, IsProblem, vectors_at}

-- exchanges for a line that us don't span, where us span what vs span
same_exchange : (S : Scalars) (p : ParityProblem) (us vs : List (List ℕ)) (T M : List ℕ) (out into : ℕ) →
    ((x : List ℕ) → InSpan S p.dimension vs x → InSpan S p.dimension us x) → CanExchange S p us T M out into →
    CanExchange S p vs T M out into
same_exchange S p us vs T M out into h e = record {
  in_target = e.in_target;
  out_of_target = e.out_of_target;
  exposed = e.exposed;
  in_support = e.in_support;
  not_spanned = λ w. e.not_spanned (All-weaker (InSpan S p.dimension vs) (InSpan S p.dimension us) h _ w);
}

module _ (S : Scalars) (p : ParityProblem) (T M : List ℕ) (keep : List (List ℕ)) (basis : Matrix)
    (h : HasSpan S p.dimension (vectors_at p M ++ keep) basis) where
  -- the first offer of a target's lines, or none
  pub first_of_span : (found : Option Offer) → MatchOption found ((l : ℕ) → Contains T l → OffersNothing S p basis.rows T M l)
      (IsOffer S p basis.rows T M) →
      MatchOption found (IsSettled S p keep T M) (IsOffer S p (vectors_at p M ++ keep) T M)
  first_of_span None none = record {
    not_free = λ l c. (none l c).not_free;
    no_exchange = λ out into e. (none into e.in_target).no_exchange out
        (same_exchange S p (vectors_at p M ++ keep) basis.rows T M out into (λ x. (h.span x).0) e);
  }
  first_of_span (Some (Line l)) o = o
  first_of_span (Some (Exchange out into)) o = same_exchange S p basis.rows (vectors_at p M ++ keep) T M out into (λ x. (h.span x).1) o

-- and it spans the set
pub set_spanned : (S : Scalars) → IsField S → (p : ParityProblem) → IsProblem S p → (M : List ℕ) (keep : List (List ℕ)) (basis : Matrix) →
    All (λ m. m < length p.lines) M → AreVectors S p.dimension keep →
    HasSpan S p.dimension (vectors_at p M ++ keep) basis → All (InSpan S p.dimension basis.rows) (vectors_at p M)
set_spanned S F p P M keep basis m k h = all-In (InSpan S p.dimension basis.rows) (vectors_at p M) (λ x i. (h.span x).1
    (span_member S F p.dimension (vectors_at p M ++ keep) x (set_with_vectors S F p P M keep m k)
    (In-append_left x (vectors_at p M) keep i)))
