-- Families that grow by sets which don't span a common point: how often they can, and what stays.
use Rattle.std.proofs.Common.{◌≡◌, ℕ, suc, ◌+◌, ◌-◌, ◌≤◌, ◌<◌, inl, List, [], ◌∷◌, ◌++◌, length, get_or, refl, sym, ap, ◌∙◌, subst, arith, All}
use Rattle.std.proofs.lemmas.List.{length_push}
use Rattle.std.proofs.lemmas.List.Elements.{All-get_or, All-nil, All-push}
use Rattle.vector_spaces.proofs.Members.{In-all, In-append_left, In-append_right, all-In}
use Rattle.linear_algebra.proofs.IndependenceLaws.{independent_left, independent_no_longer, independent_push}
use Rattle.linear_algebra.proofs.SpanLaws.{span_through}
use Rattle.linear_algebra.specs.Scalars.{IsField, Scalars}
use Rattle.linear_algebra.specs.Spans.{InSpan, IsIndependent}
use Rattle.linear_algebra.specs.Vectors.{AreVectors, IsVector}
use Rattle.parity_lines.proofs.Border.{vectors_at-vectors}
use Rattle.parity_lines.specs.LineSets.{IsIndependentSet}
use Rattle.parity_lines.specs.Problems.{IsProblem, ParityProblem, vectors_at}
use Rattle.families.specs.Families.{IsCommon, IsFamily, SetFamily, Spans}
use Rattle.augment.specs.Divided.{IsCommonPoint}
use Rattle.augment.proofs.FirstSets.{keeps_first, keeps_on, not_empty}
use Rattle.augment.specs.FirstSets.{KeepsFirst, first_of}

-- independent vectors that all sets span, and the sets, are together at most n
abbrev pub IsBounded : Scalars → SetFamily → ℕ → Type 0
IsBounded S f n = (us : List (List ℕ)) → AreVectors S f.problem.dimension us → IsIndependent S f.problem.dimension us →
    All (IsCommon S f) us →
    length us + length f.sets ≤ n

abbrev pub joined : SetFamily → List ℕ → SetFamily
joined f L = record f { sets = f.sets ++ L ∷ [] }

module _ (S : Scalars) (f : SetFamily) (k : IsFamily S f) where
  first_in : 0 < length f.sets
  first_in = not_empty f.sets k.nonempty

  pub first_independent : IsIndependentSet S f.problem (first_of f)
  first_independent = All-get_or (IsIndependentSet S f.problem) f.sets 0 [] first_in k.independent

  pub first_size : length (first_of f) ≡ k.size
  first_size = All-get_or (λ s. length s ≡ k.size) f.sets 0 [] first_in k.sizes

  pub first_as_long : (L : List ℕ) → All (λ s. length s ≡ length L) f.sets → length (first_of f) ≡ length L
  first_as_long L a = All-get_or (λ s. length s ≡ length L) f.sets 0 [] first_in a

module _ (S : Scalars) (F : IsField S) (f : SetFamily) (P : IsProblem S f.problem) where
  abbrev d : ℕ
  d = f.problem.dimension

  pub bounded_first : IsFamily S f → IsBounded S f (length (vectors_at f.problem (first_of f)) + length f.sets)
  bounded_first k us v i h =
      let M = first_of f in
      let vs = vectors_at f.problem M in
      let w : All (InSpan S d vs) us = all-In (InSpan S d vs) us (λ u j.
      All-get_or (Spans S f.problem u) f.sets 0 [] (not_empty f.sets k.nonempty) (In-all (IsCommon S f) us h u j)) in
      let l : length us ≤ length vs = independent_no_longer S F d us vs v
      (vectors_at-vectors S f.problem P M (first_independent S f k).line_set.within) i w in
      omega arith

  -- a set that doesn't span a common point
  module _ (point : List ℕ) (c : IsCommonPoint S f point) (L : List ℕ) (a : IsIndependentSet S f.problem L)
      (out : ¬ (Spans S f.problem point L)) (n : ℕ) (b : IsBounded S f n) where
    abbrev ws : List (List ℕ)
    ws = vectors_at f.problem L

    ws_vectors : AreVectors S d ws
    ws_vectors = vectors_at-vectors S f.problem P L a.line_set.within

    with_point : (us : List (List ℕ)) → AreVectors S d us → IsIndependent S d us → All (IsCommon S f) us → All (InSpan S d ws) us →
        suc (length us + length f.sets) ≤ n
    with_point us v i h w =
        let j = independent_push S F d us point v c.vector i (λ s. out (span_through S F d us ws point v ws_vectors c.vector w s)) in
        let r = b (us ++ point ∷ []) (All-push (IsVector S d) us point v c.vector) j (All-push (IsCommon S f) us point h c.common) in
        let l = length_push us point in
        omega arith

    pub bounded_more : IsBounded S (joined f L) n
    bounded_more us v i h =
        let old = all-In (IsCommon S f) us (λ u j. all-In (Spans S f.problem u) f.sets
        (λ N q. In-all (Spans S f.problem u) (f.sets ++ L ∷ []) (In-all (IsCommon S (joined f L)) us h u j) N
        (In-append_left N f.sets (L ∷ []) q))) in
        let new = all-In (InSpan S d ws) us (λ u j.
        In-all (Spans S f.problem u) (f.sets ++ L ∷ []) (In-all (IsCommon S (joined f L)) us h u j) L
        (In-append_right L f.sets (L ∷ []) (inl refl))) in
        let r = with_point us v i old new in
        let l = length_push f.sets L in
        omega arith

    -- there is room for it
    pub room : length f.sets < n
    room =
        let i = independent_left S F d [] ws (All-nil (IsVector S d)) ws_vectors a.independent in
        let r = with_point [] (All-nil (IsVector S d)) i (All-nil (IsCommon S f)) (All-nil (InSpan S d ws)) in
        omega arith

-- a family with one more set
pub keeps_more : (S : Scalars) (before f g : SetFamily) (L : List ℕ) → IsFamily S f → KeepsFirst before f → g ≡ joined f L →
    KeepsFirst before g
keeps_more S before f g L k h e = keeps_on before f g h (keeps_first f g (L ∷ []) k.nonempty e)

-- a turn: a point, which x shows, and a set that doesn't span it, with which the family is g
module _ (S : Scalars) (F : IsField S) (f g : SetFamily) (P : IsProblem S f.problem) (point x L : List ℕ) (c : IsCommonPoint S f point)
    (y : x ≡ point)
    (a : IsIndependentSet S f.problem L) (out : ¬ (Spans S f.problem x L)) (n : ℕ) (b : IsBounded S f n) (e : g ≡ joined f L) where
  outside : ¬ (Spans S f.problem point L)
  outside s = out (subst (λ v. Spans S f.problem v L) (sym y) s)

  pub turn_bounded : IsBounded S g n
  turn_bounded = subst (λ r. IsBounded S r n) (sym e) (bounded_more S F f P point c L a outside n b)

  pub turn_smaller : n - length g.sets < n - length f.sets
  turn_smaller =
      let r = room S F f P point c L a outside n b in
      let l : length g.sets ≡ length f.sets + 1 = ap (λ (h : SetFamily). length h.sets) e ∙ length_push f.sets L in
      omega arith

-- each set of the family spans a common vector
pub member_spans : (S : Scalars) (f : SetFamily) (x : List ℕ) → IsCommon S f x → (i : ℕ) → i < length f.sets → (p : ParityProblem) →
    p ≡ f.problem →
    (M : List ℕ) → M ≡ get_or f.sets i [] → Spans S p x M
member_spans S f x c i b p e M m = subst (λ (q : ParityProblem). Spans S q x M) (sym e)
    (subst (Spans S f.problem x) (sym m) (All-get_or (Spans S f.problem x) f.sets i [] b c))
