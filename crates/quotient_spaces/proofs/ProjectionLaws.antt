-- Spans, independence and ranks of projections are those of the vectors with p put in front.
use Rattle.std.proofs.Common.{◌≡◌, ℕ, suc, List, [], ◌∷◌, ◌++◌, map, refl, sym, ap₂, ◌∙◌, subst}
use Rattle.std.proofs.lemmas.List.Elements.{All-nil, All-cons, All-head, All-tail}
use Rattle.linear_algebra.proofs.Coordinates.{tuple, space}
use Rattle.linear_algebra.proofs.RankLaws.{rank_over-tuples}
use Rattle.linear_algebra.proofs.Ranks.{rank_of_tuples}
use Rattle.linear_algebra.proofs.Transfer.{tuples_of, span_to_tuples, span_from_tuples, independent_to_tuples, independent_from_tuples}
use Rattle.linear_algebra.specs.Ranks.{rank_over}
use Rattle.linear_algebra.specs.Scalars.{Scalars, IsField}
use Rattle.linear_algebra.specs.Spans.{InSpan, IsIndependent}
use Rattle.linear_algebra.specs.Vectors.{IsVector, AreVectors}
use Rattle.quotient_spaces.proofs.Projections.{quotient, tuple-projection, projection-vector, lifted-vector, projection_lifted}
use Rattle.quotient_spaces.specs.Projections.{IsPivot, IsProjection, AreProjections, lifted}
use Rattle.vector_spaces.proofs.Independence.{IsIndependent as IsIndependent_of}
use Rattle.vector_spaces.proofs.Quotients.{span_to_quotient, span_from_quotient, independent_to_quotient, independent_from_quotient, rank-quotient}
use Rattle.vector_spaces.proofs.Span.{InSpan as InSpan_of}

-- the projections of an append
pub projections_append : (S : Scalars) (p : List ℕ) (i : ℕ) (us vs us' vs' : List (List ℕ)) → AreProjections S p i us us' → AreProjections S p i vs vs' → AreProjections S p i (us ++ vs) (us' ++ vs')
projections_append S p i [] vs [] vs' a b = b
projections_append S p i [] vs (w ∷ us') vs' a b = absurd a
projections_append S p i (u ∷ us) vs [] vs' a b = absurd a
projections_append S p i (u ∷ us) vs (w ∷ us') vs' a b = (a.0, projections_append S p i us vs us' vs' a.1 b)

module _ (S : Scalars) (F : IsField S) (d : ℕ) (p : List ℕ) (i : ℕ) (h : IsVector S (suc d) p) (k : IsPivot S p i) where
  -- the projections are vectors of length d
  pub projections-vectors : (vs ws : List (List ℕ)) → AreVectors S (suc d) vs → AreProjections S p i vs ws → AreVectors S d ws
  projections-vectors [] [] l r = All-nil (IsVector S d)
  projections-vectors [] (w ∷ ws) l r = absurd r
  projections-vectors (v ∷ vs) [] l r = absurd r
  projections-vectors (v ∷ vs) (w ∷ ws) l r = All-cons (IsVector S d) w ws (projection-vector S F d p i h k v w (All-head (IsVector S (suc d)) v vs l) r.0) (projections-vectors vs ws (All-tail (IsVector S (suc d)) v vs l) r.1)

  tuples-projections : (vs ws : List (List ℕ)) → AreVectors S (suc d) vs → AreProjections S p i vs ws → tuples_of S F d ws ≡ map (quotient S F d p i h k).project (tuples_of S F (suc d) vs)
  tuples-projections [] [] l r = refl
  tuples-projections [] (w ∷ ws) l r = absurd r
  tuples-projections (v ∷ vs) [] l r = absurd r
  tuples-projections (v ∷ vs) (w ∷ ws) l r = ap₂ (λ x xs. x ∷ xs) (tuple-projection S F d p i h k v w (All-head (IsVector S (suc d)) v vs l) r.0) (tuples-projections vs ws (All-tail (IsVector S (suc d)) v vs l) r.1)

  with_point : (vs : List (List ℕ)) → AreVectors S (suc d) vs → AreVectors S (suc d) (p ∷ vs)
  with_point vs l = All-cons (IsVector S (suc d)) p vs h l

  -- vectors of length d are the projections of their lifts
  pub lifted-vectors : (ws : List (List ℕ)) → AreVectors S d ws → AreVectors S (suc d) (map (lifted S i) ws)
  lifted-vectors [] l = All-nil (IsVector S (suc d))
  lifted-vectors (w ∷ ws) l = All-cons (IsVector S (suc d)) (lifted S i w) (map (lifted S i) ws) (lifted-vector S F d p i h k w (All-head (IsVector S d) w ws l)) (lifted-vectors ws (All-tail (IsVector S d) w ws l))

  pub projections_lifted : (ws : List (List ℕ)) → AreVectors S d ws → AreProjections S p i (map (lifted S i) ws) ws
  projections_lifted [] l = tt
  projections_lifted (w ∷ ws) l = (projection_lifted S F d p i h k w (All-head (IsVector S d) w ws l), projections_lifted ws (All-tail (IsVector S d) w ws l))

  -- the projections are independent exactly where the vectors are, with p in front
  pub independent_to_projections : (vs ws : List (List ℕ)) → AreVectors S (suc d) vs → AreProjections S p i vs ws → IsIndependent S (suc d) (p ∷ vs) → IsIndependent S d ws
  independent_to_projections vs ws l r j = independent_from_tuples S F d ws (projections-vectors vs ws l r)
      (subst (IsIndependent_of (space S F d)) (sym (tuples-projections vs ws l r))
      (independent_to_quotient (space S F (suc d)) (space S F d) (tuple S F (suc d) p) (quotient S F d p i h k) (tuples_of S F (suc d) vs) (independent_to_tuples S F (suc d) (p ∷ vs) (with_point vs l) j)))

  pub independent_from_projections : (vs ws : List (List ℕ)) → AreVectors S (suc d) vs → AreProjections S p i vs ws → IsIndependent S d ws → IsIndependent S (suc d) (p ∷ vs)
  independent_from_projections vs ws l r j = independent_from_tuples S F (suc d) (p ∷ vs) (with_point vs l)
      (independent_from_quotient (space S F (suc d)) (space S F d) (tuple S F (suc d) p) (quotient S F d p i h k) (tuples_of S F (suc d) vs)
      (subst (IsIndependent_of (space S F d)) (tuples-projections vs ws l r) (independent_to_tuples S F d ws (projections-vectors vs ws l r) j)))

  -- the projection of x is spanned by those of vs exactly where p and vs span x
  pub span_to_projections : (vs ws : List (List ℕ)) (x y : List ℕ) → AreVectors S (suc d) vs → IsVector S (suc d) x → AreProjections S p i vs ws → IsProjection S p i x y → InSpan S (suc d) (p ∷ vs) x → InSpan S d ws y
  span_to_projections vs ws x y l m r t c = span_from_tuples S F d ws y (projections-vectors vs ws l r) (projection-vector S F d p i h k x y m t)
      (subst (λ ts. InSpan_of (space S F d) ts (tuple S F d y)) (sym (tuples-projections vs ws l r)) (subst (λ z. InSpan_of (space S F d) (map (quotient S F d p i h k).project (tuples_of S F (suc d) vs)) z) (sym (tuple-projection S F d p i h k x y m t))
      (span_to_quotient (space S F (suc d)) (space S F d) (tuple S F (suc d) p) (quotient S F d p i h k) (tuples_of S F (suc d) vs) (tuple S F (suc d) x) (span_to_tuples S F (suc d) (p ∷ vs) x (with_point vs l) c))))

  pub span_from_projections : (vs ws : List (List ℕ)) (x y : List ℕ) → AreVectors S (suc d) vs → IsVector S (suc d) x → AreProjections S p i vs ws → IsProjection S p i x y → InSpan S d ws y → InSpan S (suc d) (p ∷ vs) x
  span_from_projections vs ws x y l m r t c = span_from_tuples S F (suc d) (p ∷ vs) x (with_point vs l) m
      (span_from_quotient (space S F (suc d)) (space S F d) (tuple S F (suc d) p) (quotient S F d p i h k) (tuples_of S F (suc d) vs) (tuple S F (suc d) x)
      (subst (λ z. InSpan_of (space S F d) (map (quotient S F d p i h k).project (tuples_of S F (suc d) vs)) z) (tuple-projection S F d p i h k x y m t)
      (subst (λ ts. InSpan_of (space S F d) ts (tuple S F d y)) (tuples-projections vs ws l r) (span_to_tuples S F d ws y (projections-vectors vs ws l r) c))))

  -- the projections of vs have the rank over those of us that vs has over p and us
  pub rank_over-projections : (us vs us' vs' : List (List ℕ)) → AreVectors S (suc d) us → AreVectors S (suc d) vs → AreProjections S p i us us' → AreProjections S p i vs vs' → rank_over S (suc d) (p ∷ us) vs ≡ rank_over S d us' vs'
  rank_over-projections us vs us' vs' l m r t =
      rank_over-tuples S F (suc d) (p ∷ us) vs (with_point us l) m
      ∙ sym (rank-quotient (space S F (suc d)) (space S F d) (tuple S F (suc d) p) (quotient S F d p i h k) (tuples_of S F (suc d) us) (tuples_of S F (suc d) vs))
      ∙ ap₂ (rank_of_tuples S F d) (sym (tuples-projections us us' l r)) (sym (tuples-projections vs vs' m t))
      ∙ sym (rank_over-tuples S F d us' vs' (projections-vectors us us' l r) (projections-vectors vs vs' m t))

  -- the same over a kernel of vectors of length d, lifted
  pub rank_over-lifted : (kernel vs ws : List (List ℕ)) → AreVectors S d kernel → AreVectors S (suc d) vs → AreProjections S p i vs ws → rank_over S (suc d) (p ∷ map (lifted S i) kernel) vs ≡ rank_over S d kernel ws
  rank_over-lifted kernel vs ws l m r = rank_over-projections (map (lifted S i) kernel) vs kernel ws (lifted-vectors kernel l) m (projections_lifted kernel l) r

  -- an independent kernel is lifted to an independent one
  pub independent_lifted : (kernel : List (List ℕ)) → AreVectors S d kernel → IsIndependent S d kernel → IsIndependent S (suc d) (p ∷ map (lifted S i) kernel)
  independent_lifted kernel l j = independent_from_projections (map (lifted S i) kernel) kernel (lifted-vectors kernel l) (projections_lifted kernel l) j
