-- What a line of a target offers, by its place.
use Rattle.std.proofs.Common.{◌≡◌, ◌≢◌, ℕ, ◌<◌, List, [], ◌∷◌, ◌++◌, length, arith, subst, All, Option, None, MatchOption}
use Rattle.std.specs.List.{Contains}
use Rattle.std.proofs.lemmas.List.Elements.{All-nil, All-cons, All-append}
use Rattle.vector_spaces.proofs.Members.{In-all, all-In}
use Rattle.linear_algebra.specs.Scalars.{Scalars, IsField}
use Rattle.linear_algebra.specs.Spans.{InSpan}
use Rattle.linear_algebra.specs.Vectors.{IsVector, AreVectors}
use Rattle.linear_algebra.proofs.Coordinates.{space}
use Rattle.linear_algebra.proofs.SpanLaws.{span_through}
use Rattle.exchanges.proofs.SpansOfLines.{set_with_vectors, spanned_of_within}
use Rattle.exchanges.specs.Exchanges.{AreSpanned, CanExchange}
use Rattle.exchanges.specs.Offers.{IsOffer, OffersNothing, TellsLineOut}
use Rattle.exchanges.specs.declared.offer.Offer.{Offer}
use Rattle.matching_state.specs.LinePlaces.{IsExposed, IsOuter, IsTip, rank_beside}
use Rattle.matching_state.specs.Supports.{IsSupport}
use Rattle.matching_state.proofs.Ties.{one_line, in_line_vector, exposed_of}
use Rattle.matching_state.proofs.Tips.{same_components}
use Rattle.parity_lines.proofs.Border.{vectors_at-vectors, tuples_at}
use Rattle.parity_lines.specs.LineSets.{IsIndependentSet}
use Rattle.parity_lines.specs.Problems.{ParityProblem, IsProblem, vectors_at}
use Rattle.parity_theory.proofs.Exposure.{exposed_within}

-- a line that isn't exposed, and isn't free
pub not_exposed_offers_nothing : (S : Scalars) (p : ParityProblem) (vs : List (List ℕ)) (T M : List ℕ) (l : ℕ) → rank_beside S p M l ≢ 2 →
    ¬ (IsExposed S p M l) → OffersNothing S p vs T M l
not_exposed_offers_nothing S p vs T M l n k = record { not_free = n; no_exchange = λ out e. k e.exposed }

-- what is told of the line that goes out, at equal terms
pub line_out_told : (S : Scalars) (d e : ℕ) (vs : List (List ℕ)) (T v outer L : List ℕ) (found told : Option ℕ) → e ≡ d → v ≡ outer → found ≡ told →
    TellsLineOut S e vs T v L found → TellsLineOut S d vs T outer L told
line_out_told S d e vs T v outer L found told w o f t =
    subst (λ n. TellsLineOut S n vs T outer L told) w (subst (λ x. TellsLineOut S e vs T x L told) o (subst (TellsLineOut S e vs T v L) f t))

-- a look at the line that found nothing
pub nothing_found : (S : Scalars) (p : ParityProblem) (vs : List (List ℕ)) (T M : List ℕ) (l m : ℕ) (found : Option Offer) → l ≡ m →
    found ≡ None → MatchOption found (OffersNothing S p vs T M l) (IsOffer S p vs T M) → OffersNothing S p vs T M m
nothing_found S p vs T M l m found e none k = subst (OffersNothing S p vs T M) e
    (subst (λ o. MatchOption o (OffersNothing S p vs T M l) (IsOffer S p vs T M)) none k)

module _ (S : Scalars) (F : IsField S) (p : ParityProblem) (P : IsProblem S p) (M : List ℕ) (i : IsIndependentSet S p M) (T : List ℕ)
    (l : ℕ) (h : l < length p.lines) (vs : List (List ℕ)) (k : AreVectors S p.dimension vs)
    (x : IsExposed S p M l) (tip cs outer : List ℕ) (t : IsTip S p M l tip cs) (o : IsOuter S p M l outer) where
  exposed_offers_nothing : ((out : ℕ) → ¬ (CanExchange S p vs T M out l)) → OffersNothing S p vs T M l
  exposed_offers_nothing n = record { not_free = λ e. (let b = x.beside in omega arith); no_exchange = n }

  -- its outer is in the span of vs, which has that of M
  pub spanned_offers_nothing : All (InSpan S p.dimension vs) (vectors_at p M) → InSpan S p.dimension vs outer → OffersNothing S p vs T M l
  spanned_offers_nothing spans c =
      let d = p.dimension in
      let own : AreVectors S d (vectors_at p (l ∷ [])) = vectors_at-vectors S p P (l ∷ []) (one_line S F p P l h) in
      let outer_in : AreVectors S d (outer ∷ []) = All-cons (IsVector S d) outer [] (in_line_vector S F p P l outer h o.in_line)
      (All-nil (IsVector S d)) in
      let line_in : AreSpanned S p (vectors_at p M ++ outer ∷ []) (l ∷ []) =
      spanned_of_within S F p P M (outer ∷ []) i.line_set.within outer_in (l ∷ []) (one_line S F p P l h)
      (exposed_within (space S F d) (tuples_at S F p) M l _ _ _ (exposed_of S F p P M l tip cs outer i h t o)) in
      let both : All (InSpan S d vs) (vectors_at p M ++ outer ∷ []) =
      All-append (InSpan S d vs) (vectors_at p M) (outer ∷ []) spans (All-cons (InSpan S d vs) outer [] c (All-nil (InSpan S d vs))) in
      exposed_offers_nothing (λ out e. e.not_spanned
      (all-In (InSpan S d vs) (vectors_at p (l ∷ []))
      (λ v j. span_through S F d (vectors_at p M ++ outer ∷ []) vs v
      (set_with_vectors S F p P M (outer ∷ []) i.line_set.within outer_in) k
      (In-all (IsVector S d) (vectors_at p (l ∷ [])) own v j) both
      (In-all (InSpan S d (vectors_at p M ++ outer ∷ [])) (vectors_at p (l ∷ [])) line_in v j))))

  module _ (L : List ℕ) (s : IsSupport S M cs L) where
    -- its support is in the target
    pub closed_offers_nothing : ((m : ℕ) → Contains L m → Contains T m) → OffersNothing S p vs T M l
    closed_offers_nothing c = exposed_offers_nothing (λ out e.
        let r = e.in_support in
        e.out_of_target (c out ((s.lines out).1 (same_components S F p P M i l h x r.0 r.1 tip cs r.2 t out r.3))))

    -- neither: it can take the place of a line of its support
    pub exchange_found : Contains T l → ¬ (InSpan S p.dimension vs outer) → (out : ℕ) → Contains L out → ¬ (Contains T out) →
        CanExchange S p vs T M out l
    exchange_found j n out c a =
        let own : AreVectors S p.dimension (vectors_at p (l ∷ [])) = vectors_at-vectors S p P (l ∷ []) (one_line S F p P l h) in record {
          in_target = j;
          out_of_target = a;
          exposed = x;
          in_support = (tip, cs, t, (s.lines out).0 c);
          not_spanned = λ w. n (span_through S F p.dimension (vectors_at p (l ∷ [])) vs outer own k
              (in_line_vector S F p P l outer h o.in_line) w o.in_line);
        }
