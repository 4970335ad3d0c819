-- Numbers of exposed lines by the tails of their outers: the same exactly where the outers are dependent modulo the span.
use Rattle.std.proofs.Common.{◌≡◌, ◌≢◌, ℕ, ◌*◌, ◌<◌, List, [], ◌∷◌, ◌++◌, length, drop, get_or, sym, ap, ◌∙◌, subst, arith, All}
use Rattle.std.proofs.lemmas.List.Elements.{All-push, All-weaker, All-nil, All-cons}
use Rattle.vector_spaces.proofs.Members.{In-all, In-contains}
use Rattle.coordinates.proofs.Tails.{drop_vector}
use Rattle.linear_algebra.specs.Scalars.{Scalars, IsScalar, IsField}
use Rattle.linear_algebra.specs.Vectors.{IsVector, AreVectors, multiple}
use Rattle.matching_state.specs.Bases.{IsKept}
use Rattle.matching_state.specs.Chosen.{Chosen}
use Rattle.matching_state.specs.Classes.{AreDifferent, IsMonicTail, KeepsNumbers}
use Rattle.matching_state.specs.LinePlaces.{InSet}
use Rattle.matching_state.specs.Missing.{Misses}
use Rattle.matching_state.specs.Sights.{IsSeen, outer_of}
use Rattle.matching_state.specs.Surveys.{AreNumbered}
use Rattle.matching_state.specs.declared.step.Entry.{Entry}
use Rattle.matching_state.proofs.Kept.{kept_problem, combined_vector}
use Rattle.matching_state.proofs.Monics.{multiple_multiple, of_monic, monic_entries, same_monics}
use Rattle.matching_state.proofs.Outsides.{misses_both, not_missed_both}
use Rattle.matching_state.proofs.TailLaws.{rest_of_tails, tail_of_sum}
use Rattle.matching_state.proofs.Ties.{misses_to, misses_from}
use Rattle.parity_lines.specs.Problems.{ParityProblem}

module _ (S : Scalars) (F : IsField S) (state : Chosen) (K : IsKept S state) where
  abbrev p : ParityProblem
  p = state.problem

  module _ (u v s t : List ℕ) (outside : ¬ (InSet S p state.set u)) (a : IsMonicTail S state u s) (b : IsMonicTail S state v t) where
    hu : IsVector S p.dimension u
    hu = combined_vector S F state K a.coordinates u a.combines

    hv : IsVector S p.dimension v
    hv = combined_vector S F state K b.coordinates v b.combines

    both : AreVectors S p.dimension (u ∷ v ∷ [])
    both = All-cons (IsVector S p.dimension) u (v ∷ []) hu (All-cons (IsVector S p.dimension) v [] hv (All-nil (IsVector S p.dimension)))

    abbrev tail_u : List ℕ
    tail_u = drop (2 * length state.set) a.coordinates

    abbrev tail_v : List ℕ
    tail_v = drop (2 * length state.set) b.coordinates

    u_entries : All (IsScalar S) tail_u
    u_entries = (drop_vector S F (length state.basis) (2 * length state.set) a.coordinates a.combines.one_each).entries

    v_entries : All (IsScalar S) tail_v
    v_entries = (drop_vector S F (length state.basis) (2 * length state.set) b.coordinates b.combines.one_each).entries

    -- with the same tail they are dependent
    pub same_not_missed : s ≡ t → ¬ (Misses S p state.set (u ∷ v ∷ []))
    same_not_missed e j =
        let m = of_monic S F tail_v t v_entries b.monic in
        let c = S.product m.0 a.monic.factor in
        let hc = F.product_in m.0 a.monic.factor m.1 a.monic.factor_in in
        let is : tail_v ≡ multiple S c tail_u = m.2 ∙ ap (multiple S m.0) (sym e ∙ a.monic.is_multiple) ∙ multiple_multiple S F m.0 a.monic.factor tail_u m.1 a.monic.factor_in u_entries in
        let r = rest_of_tails S F state K a.coordinates u a.combines b.coordinates v b.combines c hc is in
        not_missed_both S F p (kept_problem S F state K) state.set K.independent u v hu hv c r.0 hc r.1 r.2
        (misses_to S F p (kept_problem S F state K) state.set (u ∷ v ∷ []) K.independent.line_set.within both j)

    -- with different ones they aren't
    pub different_missed : s ≢ t → Misses S p state.set (u ∷ v ∷ [])
    different_missed n = misses_from S F p (kept_problem S F state K) state.set (u ∷ v ∷ []) K.independent.line_set.within both
        (misses_both S F p (kept_problem S F state K) state.set K.independent u v hu hv outside (λ c r hc q z.
        let m = of_monic S F tail_u s u_entries a.monic in
        let f = b.monic.factor in
        let hf = b.monic.factor_in in
        let fc = F.product_in f c hf hc in
        let is : t ≡ multiple S (S.product (S.product f c) m.0) s =
        b.monic.is_multiple ∙ ap (multiple S f) (tail_of_sum S F state K a.coordinates u a.combines b.coordinates v b.combines c hc r q z)
        ∙ multiple_multiple S F f c tail_u hf hc u_entries ∙ ap (multiple S (S.product f c)) m.2
        ∙ multiple_multiple S F (S.product f c) m.0 s fc m.1 (monic_entries S F tail_u s u_entries a.monic) in
        n (sym (same_monics S F tail_v tail_u t s (S.product (S.product f c) m.0) (monic_entries S F tail_u s u_entries a.monic) (F.product_in (S.product f c) m.0 fc m.1) is b.monic a.monic))))

-- an entry with the number of its outer's tail
pub record HasNumber {X : Type 0} (S : Scalars) (state : Chosen) (tails : List (List ℕ)) (x : Entry X) : Type 0 where
  pub within : x.class < length tails
  pub tail : IsMonicTail S state (outer_of state.problem x.exposed.line x.exposed.second) (get_or tails x.class [])

module _ {X : Type 0} (S : Scalars) (state : Chosen) where
  -- numbers stay
  pub numbers_kept : (before after : List (List ℕ)) → KeepsNumbers before after → (xs : List (Entry X)) → All (HasNumber S state before) xs → All (HasNumber S state after) xs
  numbers_kept before after k xs h = All-weaker (HasNumber S state before) (HasNumber S state after) (λ x n.
      let w = n.within in
      let l = k.longer in
      record { within = omega arith; tail = subst (IsMonicTail S state (outer_of state.problem x.exposed.line x.exposed.second)) (sym (k.same x.class n.within)) n.tail }) xs h

  pub number_pushed : (before after : List (List ℕ)) → KeepsNumbers before after → (xs ys : List (Entry X)) (x : Entry X) → ys ≡ xs ++ x ∷ [] → All (HasNumber S state before) xs → HasNumber S state after x → All (HasNumber S state after) ys
  number_pushed before after k xs ys x e h n = subst (All (HasNumber S state after)) (sym e) (All-push (HasNumber S state after) xs x (numbers_kept before after k xs h) n)

module _ {X : Type 0} (S : Scalars) (F : IsField S) (number : X → ℕ) (state : Chosen) (K : IsKept S state) where
  pub numbered : (tails : List (List ℕ)) (xs : List (Entry X)) → AreDifferent tails → All (λ x. IsSeen S number state.problem state.set x.exposed) xs → All (HasNumber S state tails) xs → AreNumbered S state.problem state.set xs
  numbered tails xs d seen h x y a b =
      let s = In-all (λ x. IsSeen S number state.problem state.set x.exposed) xs seen x (In-contains xs x a) in
      let m = In-all (HasNumber S state tails) xs h x (In-contains xs x a) in
      let n = In-all (HasNumber S state tails) xs h y (In-contains xs y b) in (
        λ q. different_missed S F state K _ _ _ _ s.outer.outside m.tail n.tail (λ e. q (d x.class y.class m.within n.within e)),
        λ j e. same_not_missed S F state K _ _ _ _ s.outer.outside m.tail n.tail (ap (λ t. get_or tails t []) e) j,
      )
