-- What is seen of a line whose vectors have the coordinates cu and cv over the basis of a state.
use Rattle.std.proofs.Common.{◌≡◌, ◌≢◌, ℕ, suc, ◌+◌, ◌*◌, ◌<◌, ◌≤◌, List, [], ◌∷◌, ◌++◌, Bool, true, false, not, true≢false, IsTrue, Option, Some, None, is_some, MatchOption, length, map, take, take_all, drop, get_or, refl, sym, ap, ap₂, ◌∙◌, subst, arith, drop-cons}
use Rattle.std.specs.Prelude.{◌↔◌}
use Rattle.std.proofs.lemmas.List.{length-map, length-take-le, take-append-drop, take_more}
use Rattle.std.proofs.lemmas.List.Elements.{All-nil, All-cons, All-take, All-drop, All-get_or, All-map}
use Rattle.std.proofs.lemmas.List.FromFn.{get_or-map-range_with_len}
use Rattle.coordinates.specs.Bases.{unit_vector, unit_vectors}
use Rattle.coordinates.proofs.Pivots.{zero_multiple}
use Rattle.coordinates.proofs.Units.{length-units, units_basis, combination-units}
use Rattle.coordinates.proofs.IndependentTails.{combines_sum, combines_multiple}
use Rattle.echelon.proofs.Insertion.{combination-front}
use Rattle.linear_algebra.specs.Scalars.{Scalars, IsScalar, IsField}
use Rattle.linear_algebra.specs.Ranks.{rank_over}
use Rattle.linear_algebra.specs.Spans.{combination, Combines, IsIndependent}
use Rattle.linear_algebra.specs.Vectors.{IsVector, zero_vector, vector_sum, multiple}
use Rattle.linear_algebra.proofs.RankLaws.{rank_le_length}
use Rattle.linear_algebra.proofs.SpanLaws.{span_decidable}
use Rattle.linear_algebra.proofs.Transfer.{independent_from_tuples}
use Rattle.linear_algebra.proofs.VectorLaws.{multiple-vector, vector_sum-zero, zero-vector}
use Rattle.linear_algebra.proofs.Combinations.{combination-append, combination-push_zeros}
use Rattle.matching_state.specs.Bases.{IsKept}
use Rattle.matching_state.specs.Chosen.{Chosen}
use Rattle.matching_state.specs.LinePlaces.{InSet, own_rank, rank_beside}
use Rattle.matching_state.specs.Sights.{HasRest, IsRest, outer_of, other_of}
use Rattle.matching_state.specs.declared.sights.Exposed.{Exposed}
use Rattle.matching_state.proofs.Findings.{inside_found, outer_found, free_found, beside_found}
use Rattle.matching_state.proofs.Kept.{kept_problem, combined_vector, front_within}
use Rattle.matching_state.proofs.SightLaws.{of_line}
use Rattle.matching_state.proofs.TailLaws.{IsZeroFrom, front_combined, inside_of_tail, outside_of_tail, tail_of_sum, rest_of_tails, entry_of_sum, sum_cancel}
use Rattle.parity_lines.proofs.Border.{vectors_at-vectors}
use Rattle.parity_lines.proofs.IndependentLines.{length-vectors_at}
use Rattle.parity_lines.specs.Problems.{ParityProblem, IsProblem, line_at, vectors_at}

module _ (S : Scalars) (F : IsField S) (state : Chosen) (K : IsKept S state) (e : ℕ) (h : e < length state.problem.lines) where
  abbrev p : ParityProblem
  p = state.problem

  abbrev M : List ℕ
  M = state.set

  abbrev k : ℕ
  k = 2 * length state.set

  P : IsProblem S p
  P = kept_problem S F state K

  -- a line with a rest adds one
  pub rest_adds_one : {X : Type 0} (number : X → ℕ) (x : Exposed X) → IsScalar S (number x.factor) → HasRest S number p M x → rank_beside S p M x.line ≡ 1
  rest_adds_one number x hc w = beside_found S F p P M K.independent x.line w.within _ _ (of_line p x.line x.second) w.outer.outside (number x.factor) hc w.tip (record { coefficients = w.coordinates; combine = w.rest.combines }) w.rest.sum

  module _ (cu cv : List ℕ) (a : Combines S p.dimension state.basis cu (line_at p e).0) (b : Combines S p.dimension state.basis cv (line_at p e).1) where
    u_vector : IsVector S p.dimension (line_at p e).0
    u_vector = combined_vector S F state K cu (line_at p e).0 a

    v_vector : IsVector S p.dimension (line_at p e).1
    v_vector = combined_vector S F state K cv (line_at p e).1 b

    pub inside_seen : IsZeroFrom S k cu → IsZeroFrom S k cv → rank_beside S p M e ≡ 0
    inside_seen z w = inside_found S F p P M K.independent e h _ _ (of_line p e false) (inside_of_tail S F state K cu _ a z) (inside_of_tail S F state K cv _ b w)

    -- the first vector is in the span, and the second isn't
    pub second_seen : {X : Type 0} (number : X → ℕ) (factor : X) → number factor ≡ S.zero → IsZeroFrom S k cu → (i : ℕ) → k ≤ i → i < length cv → get_or cv i 0 ≢ S.zero →
        HasRest S number p M (record { line = e; second = true; factor = factor })
    second_seen number factor is_zero z i l m n = record {
      within = h;
      outer = outer_found S F p P M K.independent e h _ _ (of_line p e true) (outside_of_tail S F state K cv _ b i l m n);
      tip = (line_at p e).0;
      coordinates = take k cu;
      rest = record {
        combines = front_combined S F state K cu _ a z;
        sum = ap (λ c. vector_sum S (line_at p e).0 (multiple S c (line_at p e).1)) is_zero
            ∙ ap (vector_sum S (line_at p e).0) (zero_multiple S F (line_at p e).1 v_vector.entries ∙ ap (zero_vector S) v_vector.length_is) ∙ vector_sum-zero S F p.dimension (line_at p e).0 u_vector;
      };
    }

    module _ (i : ℕ) (l : k ≤ i) (m : i < length cu) (n : get_or cu i 0 ≢ S.zero) where
      -- the first vector isn't, and the second is a multiple of it
      pub first_seen : {X : Type 0} (number : X → ℕ) (factor : X) → IsScalar S (number factor) → drop k cv ≡ multiple S (number factor) (drop k cu) → HasRest S number p M (record { line = e; second = false; factor = factor })
      first_seen number factor hc q =
          let r = rest_of_tails S F state K cu _ a cv _ b (number factor) hc q in
          record {
            within = h;
            outer = outer_found S F p P M K.independent e h _ _ (of_line p e false) (outside_of_tail S F state K cu _ a i l m n);
            tip = r.0;
            coordinates = r.1.coefficients;
            rest = record { combines = r.1.combine; sum = r.2 };
          }

      -- it is no multiple
      pub free_seen : ((c : ℕ) → IsScalar S c → drop k cv ≢ multiple S c (drop k cu)) → rank_beside S p M e ≡ 2
      free_seen never = free_found S F p P M K.independent e h _ _ (of_line p e false) (outside_of_tail S F state K cu _ a i l m n)
          (λ c r hc s q. never c hc (tail_of_sum S F state K cu _ a cv _ b c hc r s q))

    -- where the first vector is in the span, the line isn't free
    pub not_free : IsZeroFrom S k cu → rank_beside S p M e ≢ 2
    not_free z q = go (span_decidable S F p.dimension (vectors_at p M) (line_at p e).1 (vectors_at-vectors S p P M K.independent.line_set.within) v_vector)
      where
        go : Dec (InSet S p M (line_at p e).1) → ⊥
        go (yes w) = let r = inside_found S F p P M K.independent e h _ _ (of_line p e false) (inside_of_tail S F state K cu _ a z) w in omega arith
        go (no w) =
            let r = beside_found S F p P M K.independent e h _ _ (of_line p e true) w S.zero F.zero_in (line_at p e).0 (inside_of_tail S F state K cu _ a z)
            (ap (vector_sum S (line_at p e).0) (zero_multiple S F (line_at p e).1 v_vector.entries ∙ ap (zero_vector S) v_vector.length_is) ∙ vector_sum-zero S F p.dimension (line_at p e).0 u_vector) in
            omega arith

-- the rank of a line is what it adds to no line
module _ (S : Scalars) (F : IsField S) (state : Chosen) (K : IsKept S state) where
  abbrev pub alone : Chosen
  alone = record { problem = state.problem; set = []; basis = state.basis; kept = state.kept }

  no_vectors : vectors_at state.problem [] ≡ []
  unfolding vectors_at
  no_vectors = refl

  pub alone_kept : IsKept S alone
  alone_kept = record {
    independent = record {
      line_set = record { increasing = λ i h. absurd (omega arith); within = All-nil (λ m. m < length state.problem.lines) };
      independent = subst (IsIndependent S state.problem.dimension) (sym no_vectors) (independent_from_tuples S F state.problem.dimension [] (All-nil (IsVector S state.problem.dimension)) tt);
    };
    listed = record { is_basis = K.listed.is_basis; begins = sym no_vectors; coordinates = K.listed.coordinates };
  }

  pub alone_rank : (e : ℕ) → rank_beside S state.problem [] e ≡ own_rank S state.problem e
  alone_rank e =
      let none = rank_le_length S F state.problem.dimension [] (All-nil (IsVector S state.problem.dimension)) in
      let same : rank_over S state.problem.dimension [] (vectors_at state.problem (e ∷ [])) ≡ own_rank S state.problem e = omega arith in
      ap (λ vs. rank_over S state.problem.dimension vs (vectors_at state.problem (e ∷ []))) no_vectors ∙ same

module _ (S : Scalars) (F : IsField S) (state : Chosen) (K : IsKept S state) where
  -- an entry of the coordinates of the tip
  pub tip_entry : (e : ℕ) (second : Bool) (c : ℕ) (cu cv rest cs : List ℕ) → IsScalar S c → Combines S state.problem.dimension state.basis cu (outer_of state.problem e second) →
      Combines S state.problem.dimension state.basis cv (other_of state.problem e second) → IsRest S state.problem state.set e second c rest cs →
      (j r m x y : ℕ) → j < 2 * length state.set → IsScalar S r → m ≡ S.product c x → x ≡ get_or cu j 0 → S.sum r m ≡ y → y ≡ get_or cv j 0 → get_or cs j 0 ≡ r
  tip_entry e second c cu cv rest cs hc a b q j r m x y l hr product_is x_is sum_is y_is =
      let is : m ≡ S.product c (get_or cu j 0) = product_is ∙ ap (S.product c) x_is in
      let sum : S.sum r m ≡ get_or cv j 0 = sum_is ∙ y_is in
      let room = front_within S F state K in
      let cu_long = a.one_each.length_is in
      let cs_long = q.combines.one_each.length_is ∙ length-vectors_at state.problem state.set in
      let hx : IsScalar S (get_or cu j 0) = All-get_or (IsScalar S) cu j 0 (omega arith) a.one_each.entries in
      let hs : IsScalar S (get_or cs j 0) = All-get_or (IsScalar S) cs j 0 (omega arith) q.combines.one_each.entries in
      sum_cancel S F (get_or cs j 0) r m hs hr (subst (IsScalar S) (sym is) (F.product_in c (get_or cu j 0) hc hx))
      (ap (S.sum (get_or cs j 0)) is ∙ entry_of_sum S F state K cu _ a cv _ b c hc cs rest q.combines q.sum j l ∙ sym sum)

pub turned : (p : ParityProblem) (e : ℕ) (second : Bool) → outer_of p e (not second) ≡ other_of p e second
turned p e false = refl
turned p e true = refl

-- the combination that the coordinates of unit vectors make, one after another
module _ (S : Scalars) (F : IsField S) (d : ℕ) where
  pub one_unit_more : (v : List ℕ) (i : ℕ) → IsVector S d v → i < d → combination S d (take (i + 1) v) (unit_vectors S d) ≡ vector_sum S (combination S d (take i v) (unit_vectors S d)) (multiple S (get_or v i 0) (unit_vector S d i))
  unfolding combination
  one_unit_more v i h l =
      let us = unit_vectors S d in
      let units = (units_basis S F d).vectors in
      let us_long = length-units S F d in
      let v_long = h.length_is in
      let front : length (take i us) ≡ i = length-take-le i us (omega arith) in
      let v_front : length (take i v) ≡ i = length-take-le i v (omega arith) in
      let at : get_or us i [] ≡ unit_vector S d i = get_or-map-range_with_len (unit_vector S d) 0 d i i [] l (omega arith) in
      let unit_in : IsVector S d (unit_vector S d i) = subst (IsVector S d) at (All-get_or (IsVector S d) us i [] (omega arith) units) in
      let x_in : IsScalar S (get_or v i 0) = All-get_or (IsScalar S) v i 0 (omega arith) h.entries in
      ap₂ (combination S d) (take_more v i 0 (omega arith)) (sym (take-append-drop i us) ∙ ap (λ t. take i us ++ t) (drop-cons us i [] (omega arith) ∙ ap (λ u. u ∷ drop (suc i) us) at))
      ∙ combination-append S F d (take i v) (get_or v i 0 ∷ []) (take i us) (unit_vector S d i ∷ drop (suc i) us)
      (record { length_is = v_front ∙ sym front; entries = All-take (IsScalar S) i v h.entries }) (All-cons (IsScalar S) (get_or v i 0) [] x_in (All-nil (IsScalar S)))
      (All-take (IsVector S d) i us units) (All-cons (IsVector S d) (unit_vector S d i) (drop (suc i) us) unit_in (All-drop (IsVector S d) (suc i) us units))
      ∙ ap₂ (vector_sum S)
      (sym (combination-front S d (take i v) (take i us) (drop i us) (omega arith)) ∙ ap (combination S d (take i v)) (take-append-drop i us))
      (vector_sum-zero S F d (multiple S (get_or v i 0) (unit_vector S d i)) (multiple-vector S F d (get_or v i 0) (unit_vector S d i) x_in unit_in))

-- whether both vectors of a line are independent
module _ (S : Scalars) (F : IsField S) (state : Chosen) (K : IsKept S state) (e : ℕ) (h : e < length state.problem.lines) (cu cv : List ℕ)
    (a : Combines S state.problem.dimension state.basis cu (line_at state.problem e).0) (b : Combines S state.problem.dimension state.basis cv (line_at state.problem e).1) where
  pub two_by_zero : IsZeroFrom S 0 cu → own_rank S state.problem e ≢ 2
  two_by_zero z r = not_free S F (alone S F state K) (alone_kept S F state K) e h cu cv a b z (alone_rank S F state K e ∙ r)

  pub two_by_ratio : (i : ℕ) → i < length cu → get_or cu i 0 ≢ S.zero → {X : Type 0} (number : X → ℕ) → ((x : X) → IsScalar S (number x)) → (ratio : Option X) (none : Bool) →
      MatchOption ratio ((f : ℕ) → IsScalar S f → drop 0 cv ≢ multiple S f (drop 0 cu)) (λ f. drop 0 cv ≡ multiple S (number f) (drop 0 cu)) → is_some ratio ≡ not none →
      IsTrue none ↔ (own_rank S state.problem e ≡ 2)
  two_by_ratio i m n number hn None none never t = (
    λ q. sym (alone_rank S F state K e) ∙ free_seen S F (alone S F state K) (alone_kept S F state K) e h cu cv a b i (omega arith) m n never,
    λ r. is_none none (sym t),
  )
    where
      is_none : (x : Bool) → not x ≡ false → x ≡ true
      is_none true q = refl
      is_none false q = sym q
  two_by_ratio i m n number hn (Some f) none is t = (
    λ q. absurd (true≢false (t ∙ ap not q)),
    λ r.
        let w = first_seen S F (alone S F state K) (alone_kept S F state K) e h cu cv a b i (omega arith) m n number f (hn f) is in
        let one : rank_beside S state.problem [] e ≡ 1 = rest_adds_one S F (alone S F state K) (alone_kept S F state K) e h number (record { line = e; second = false; factor = f }) (hn f) w in
        let own : rank_beside S state.problem [] e ≡ own_rank S state.problem e = alone_rank S F state K e in
        absurd (omega arith),
  )

module _ (S : Scalars) (F : IsField S) (state : Chosen) where
  abbrev d : ℕ
  d = state.problem.dimension

  abbrev Units : List ℕ → List ℕ → Type 0
  Units row cs = Combines S state.problem.dimension state.basis row (combination S state.problem.dimension cs (unit_vectors S state.problem.dimension))

  pub none_combined : IsKept S state → (row : List ℕ) (n : ℕ) → n ≡ state.problem.dimension → row ≡ zero_vector S n → Units row []
  unfolding combination
  none_combined K row n e is = subst (λ r. Combines S state.problem.dimension state.basis r (zero_vector S state.problem.dimension)) (sym (is ∙ ap (zero_vector S) (e ∙ sym K.listed.is_basis.length_is))) (record {
    one_each = zero-vector S F (length state.basis);
    gives = combination-push_zeros S F state.problem.dimension (length state.basis) [] state.basis (All-nil (IsScalar S)) K.listed.is_basis.vectors;
  })

  module _ {X : Type 0} (number : X → ℕ) (hn : (x : X) → IsScalar S (number x)) (v : List X) (e : length v ≡ state.problem.dimension) where
    numbers : IsVector S state.problem.dimension (map number v)
    numbers = record { length_is = length-map v number ∙ e; entries = All-map (IsScalar S) number v (λ i x h. hn (get_or v i x)) }

    -- one more of the unit vectors' coordinates is added
    pub unit_more : IsKept S state → (i : ℕ) → i < length v → (row unit new : List ℕ) → Units row (take i (map number v)) → Combines S state.problem.dimension state.basis unit (unit_vector S state.problem.dimension i) →
        (x : X) → get_or (map number v) i 0 ≡ number x → new ≡ vector_sum S row (multiple S (number x) unit) → Units new (take (i + 1) (map number v))
    unit_more K i h row unit new before at x read is =
        let vs = K.listed.is_basis.vectors in
        let cs = combination S d (take i (map number v)) (unit_vectors S d) in
        let sum : Combines S d state.basis (vector_sum S row (multiple S (number x) unit)) (vector_sum S cs (multiple S (number x) (unit_vector S d i))) =
        combines_sum S F d state.basis vs row (multiple S (number x) unit) cs (multiple S (number x) (unit_vector S d i)) before (combines_multiple S F d state.basis vs (number x) unit (unit_vector S d i) (hn x) at) in
        let step : vector_sum S cs (multiple S (number x) (unit_vector S d i)) ≡ combination S d (take (i + 1) (map number v)) (unit_vectors S d) =
        ap (λ t. vector_sum S cs (multiple S t (unit_vector S d i))) (sym read) ∙ sym (one_unit_more S F d (map number v) i numbers (omega (arith, e))) in
        subst (λ r. Combines S d state.basis r (combination S d (take (i + 1) (map number v)) (unit_vectors S d))) (sym is)
        (subst (Combines S d state.basis (vector_sum S row (multiple S (number x) unit))) step sum)

    -- all of them
    pub all_units : (i : ℕ) → length v ≤ i → (row : List ℕ) → Units row (take i (map number v)) → Combines S state.problem.dimension state.basis row (map number v)
    all_units i h row c =
        let long = length-map v number in
        subst (Combines S d state.basis row) (ap (λ cs. combination S d cs (unit_vectors S d)) (take_all i (map number v) (omega arith)) ∙ combination-units S F d (map number v) numbers) c
