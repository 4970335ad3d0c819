-- What the coordinates of a line's vectors tell of its place.
use Rattle.std.proofs.Common.{◌≡◌, ◌≢◌, ℕ, zero, suc, ◌+◌, ◌*◌, ◌<◌, inl, inr, List, [], ◌∷◌, Bool, true, false, length, get_or, refl, sym, ap, ap₂, ◌∙◌, subst, arith}
use Rattle.std.specs.Prelude.{slice_index, ◌↔◌}
use Rattle.std.specs.List.Sorted.{IsStrictlyIncreasing}
use Rattle.std.proofs.Math.Decide.{ℕ_discrete}
use Rattle.std.proofs.lemmas.Bool.{cases_order}
use Rattle.std.proofs.lemmas.List.{get_or-replicate}
use Rattle.std.proofs.lemmas.List.Elements.{All-nil}
use Rattle.std.proofs.lemmas.List.Kept.{AllPairs-from_increasing}
use Rattle.linear_algebra.specs.Scalars.{Scalars, IsScalar, IsField}
use Rattle.linear_algebra.specs.Spans.{combination, Combines}
use Rattle.linear_algebra.specs.Vectors.{AreVectors, zero_vector, vector_sum, multiple}
use Rattle.linear_algebra.proofs.Combinations.{combination-push_zeros, span_vector}
use Rattle.linear_algebra.proofs.IndependenceLaws.{unique_coefficients}
use Rattle.matching_state.specs.LinePlaces.{InSet, IsExposed, IsTip, own_rank, rank_beside}
use Rattle.matching_state.specs.Overlaps.{InSupport}
use Rattle.matching_state.specs.Sights.{HasPairAt, HasRest, IsRest, IsSeen, outer_of, other_of}
use Rattle.matching_state.specs.Supports.{HasComponent}
use Rattle.matching_state.specs.declared.sights.Exposed.{Exposed}
use Rattle.matching_state.proofs.Findings.{AreOfLine, both_vectors, single_found, exposed_found, tip_found}
use Rattle.matching_state.proofs.TailLaws.{put_back}
use Rattle.matching_state.proofs.Tips.{same_components}
use Rattle.parity_lines.proofs.Border.{vectors_at-vectors}
use Rattle.parity_lines.proofs.IndependentLines.{length-vectors_at}
use Rattle.parity_lines.specs.LineSets.{IsIndependentSet}
use Rattle.parity_lines.specs.Problems.{ParityProblem, IsProblem, vectors_at}

pub of_line : (p : ParityProblem) (e : ℕ) (second : Bool) → AreOfLine p e (outer_of p e second) (other_of p e second)
of_line p e false = inl refl
of_line p e true = inr refl

-- a place in an increasing list is told by what stands there
pub same_place : (M : List ℕ) (i j : ℕ) → IsStrictlyIncreasing M → i < length M → j < length M → get_or M i 0 ≡ get_or M j 0 → i ≡ j
same_place M i j rises h k e = elim (cases_order i j) as (λ _. i ≡ j) [
  | inl q ↦ q
  | inr s ↦ elim s [
    | inl l ↦ absurd (let r = AllPairs-from_increasing M rises i j 0 l k in omega arith)
    | inr l ↦ absurd (let r = AllPairs-from_increasing M rises j i 0 l h in omega arith)
  ]
]

-- coordinates of which all pairs are zero
pub zero_pairs : (S : Scalars) (n : ℕ) (cs : List ℕ) → length cs ≡ 2 * n → ((j : ℕ) → j < n → HasPairAt cs j S.zero S.zero) → cs ≡ zero_vector S (2 * n)
zero_pairs S zero [] e h = refl
zero_pairs S zero (c ∷ cs) e h = absurd (omega arith)
zero_pairs S (suc n) [] e h = absurd (omega arith)
zero_pairs S (suc n) (c ∷ []) e h = absurd (omega arith)
zero_pairs S (suc n) (c ∷ c' ∷ cs) e h =
    let first = h 0 (omega arith) in
    let two : 2 * suc n ≡ suc (suc (2 * n)) = omega arith in
    ap₂ (λ x xs. x ∷ xs) first.0 (ap₂ (λ x xs. x ∷ xs) first.1 (zero_pairs S n cs (omega arith) (λ j l.
    let q = h (suc j) (omega arith) in
    let a : 2 * suc j ≡ suc (suc (2 * j)) = omega arith in
    let b : 2 * suc j + 1 ≡ suc (suc (2 * j + 1)) = omega arith in
    (ap (λ t. get_or (c ∷ c' ∷ cs) t 0) (sym a) ∙ q.0, ap (λ t. get_or (c ∷ c' ∷ cs) t 0) (sym b) ∙ q.1))))
    ∙ ap (zero_vector S) (sym two)

module _ (S : Scalars) (F : IsField S) (p : ParityProblem) (P : IsProblem S p) (M : List ℕ) (i : IsIndependentSet S p M) where
  set_vectors : AreVectors S p.dimension (vectors_at p M)
  set_vectors = vectors_at-vectors S p P M i.line_set.within

  pub rest_of_zeros : (cs rest : List ℕ) → Combines S p.dimension (vectors_at p M) cs rest → ((j : ℕ) → j < length M → HasPairAt cs j S.zero S.zero) → rest ≡ zero_vector S p.dimension
  unfolding combination
  rest_of_zeros cs rest c h =
      sym c.gives ∙ ap (λ t. combination S p.dimension t (vectors_at p M)) (zero_pairs S (length M) cs (c.one_each.length_is ∙ length-vectors_at p M) h)
      ∙ combination-push_zeros S F p.dimension (2 * length M) [] (vectors_at p M) (All-nil (IsScalar S)) set_vectors

  pub zeros_of_rest : (cs rest : List ℕ) → Combines S p.dimension (vectors_at p M) cs rest → rest ≡ zero_vector S p.dimension → (j : ℕ) → j < length M → HasPairAt cs j S.zero S.zero
  zeros_of_rest cs rest c z j h =
      let long = length-vectors_at p M in
      let e = i.independent cs (subst (Combines S p.dimension (vectors_at p M) cs) z c) in (
        ap (λ t. get_or t (2 * j) 0) e ∙ get_or-replicate (length (vectors_at p M)) (2 * j) S.zero 0 (omega arith),
        ap (λ t. get_or t (2 * j + 1) 0) e ∙ get_or-replicate (length (vectors_at p M)) (2 * j + 1) S.zero 0 (omega arith),
      )

  -- the rest is the other vector less c times the outer
  pub rest_is : (e : ℕ) (second : Bool) (c minus : ℕ) (r cs : List ℕ) → e < length p.lines → IsScalar S c → IsScalar S minus → S.sum c minus ≡ S.zero → IsRest S p M e second c r cs →
      r ≡ vector_sum S (other_of p e second) (multiple S minus (outer_of p e second))
  rest_is e second c minus r cs h hc hm z q =
      sym (put_back S F p.dimension c minus (outer_of p e second) r hc hm (F.sum_comm minus c hm hc ∙ z) (both_vectors S F p P M i e h (outer_of p e second) (other_of p e second) (of_line p e second)).0
      (span_vector S F p.dimension (vectors_at p M) r set_vectors (record { coefficients = cs; combine = q.combines })))
      ∙ ap (λ w. vector_sum S w (multiple S minus (outer_of p e second))) q.sum

  -- there is one rest, and one list of its coordinates
  pub same_rest : (e : ℕ) (second : Bool) (c : ℕ) (r cs r' cs' : List ℕ) → e < length p.lines → IsScalar S c → IsRest S p M e second c r cs → IsRest S p M e second c r' cs' → (r ≡ r') × (cs ≡ cs')
  same_rest e second c r cs r' cs' h hc a b =
      let n = F.negative c hc in
      let same : r ≡ r' = rest_is e second c n.0 r cs h hc n.1 n.2 a ∙ sym (rest_is e second c n.0 r' cs' h hc n.1 n.2 b) in
      (same, unique_coefficients S F p.dimension (vectors_at p M) r' cs cs' set_vectors i.independent (subst (Combines S p.dimension (vectors_at p M) cs) same a.combines) b.combines)

  -- a line of the support, by any tip
  pub component_by : (e : ℕ) → e < length p.lines → IsExposed S p M e → (tip cs : List ℕ) → IsTip S p M e tip cs → (m : ℕ) → InSupport S p M e m ↔ HasComponent S M cs m
  component_by e l x tip cs t m = (λ k. same_components S F p P M i e l x k.0 k.1 tip cs k.2 t m k.3, λ k. (tip, cs, t, k))

  -- a component of a tip at a line of M
  pub component_of_tip : (e : ℕ) → e < length p.lines → IsExposed S p M e → (tip cs : List ℕ) → IsTip S p M e tip cs → (j : ℕ) → j < length M → InSupport S p M e (slice_index M j) ↔ ¬ (HasPairAt cs j S.zero S.zero)
  component_of_tip e l x tip cs t j h = (there, λ n. (tip, cs, t, record { index = j; within = h; line = refl; not_zero = n }))
    where
      there : InSupport S p M e (slice_index M j) → ¬ (HasPairAt cs j S.zero S.zero)
      there k =
          let c = same_components S F p P M i e l x k.0 k.1 tip cs k.2 t (slice_index M j) k.3 in
          subst (λ q. ¬ (HasPairAt cs q S.zero S.zero)) (same_place M c.index j i.line_set.increasing c.within h c.line) c.not_zero

  module _ {X : Type 0} (number : X → ℕ) (x : Exposed X) (hc : IsScalar S (number x.factor)) where
    module _ (w : HasRest S number p M x) where
      in_set : InSet S p M w.tip
      in_set = record { coefficients = w.coordinates; combine = w.rest.combines }

      pub single_seen : w.tip ≡ zero_vector S p.dimension → (rank_beside S p M x.line ≡ 1) × (own_rank S p x.line ≡ 1)
      single_seen z = single_found S F p P M i x.line w.within _ _ (of_line p x.line x.second) w.outer.outside (number x.factor) hc w.tip in_set w.rest.sum z

      pub exposed_seen : w.tip ≢ zero_vector S p.dimension → IsSeen S number p M x
      exposed_seen n = record {
        within = w.within;
        exposed = exposed_found S F p P M i x.line w.within _ _ (of_line p x.line x.second) w.outer.outside (number x.factor) hc w.tip in_set w.rest.sum n;
        outer = w.outer;
        tip = w.tip;
        coordinates = w.coordinates;
        tip_is = tip_found S F p P M i x.line w.within _ _ (of_line p x.line x.second) w.outer.outside (number x.factor) hc w.tip in_set w.rest.sum w.coordinates w.rest.combines n;
        rest = w.rest;
      }

    -- a component at a line of M
    pub component_at : (s : IsSeen S number p M x) (j : ℕ) → j < length M → InSupport S p M x.line (slice_index M j) ↔ ¬ (HasPairAt s.coordinates j S.zero S.zero)
    component_at s j h = component_of_tip x.line s.within s.exposed s.tip s.coordinates s.tip_is j h

    -- whichever pair is read of the tip
    pub component_read : (s : IsSeen S number p M x) (j a b : ℕ) → j < length M → HasPairAt s.coordinates j a b → InSupport S p M x.line (slice_index M j) ↔ ¬ ((a ≡ S.zero) × (b ≡ S.zero))
    component_read s j a b h q = let c = component_at s j h in (
      λ k z. c.0 k (q.0 ∙ z.0, q.1 ∙ z.1),
      λ n. c.1 (λ z. n (sym q.0 ∙ z.0, sym q.1 ∙ z.1)),
    )

-- two numbers that aren't other than zero
pub both_zero : (a b z : ℕ) → ¬ (¬ ((a ≡ z) × (b ≡ z))) → (a ≡ z) × (b ≡ z)
both_zero a b z n = go (ℕ_discrete a z) (ℕ_discrete b z)
  where
    go : Dec (a ≡ z) → Dec (b ≡ z) → (a ≡ z) × (b ≡ z)
    go (yes p) (yes q) = (p, q)
    go (no m) d = absurd (n (λ h. m h.0))
    go (yes p) (no m) = absurd (n (λ h. m h.1))
