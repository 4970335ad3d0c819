-- An overlap, seen in the space of tuples.
use Rattle.std.proofs.Common.{◌≡◌, ◌≢◌, ℕ, ◌+◌, ◌*◌, ◌<◌, ◌⊎◌, inl, inr, List, [], ◌∷◌, ◌++◌, length, get_or, sym, ◌∙◌, subst, arith}
use Rattle.std.specs.Prelude.{slice_index, None}
use Rattle.std.specs.List.{Contains}
use Rattle.std.specs.List.Sorted.{IsStrictlyIncreasing}
use Rattle.std.proofs.Math.Decide.{ℕ_discrete}
use Rattle.std.proofs.lemmas.Bool.{cases_order}
use Rattle.std.proofs.lemmas.List.Elements.{All-nil, All-cons}
use Rattle.std.proofs.lemmas.List.Kept.{AllPairs-from_increasing}
use Rattle.vector_spaces.proofs.Independence.{IsIndependent as IsIndependent_of}
use Rattle.vector_spaces.proofs.Members.{In, In-all, contains-In, In-contains}
use Rattle.vector_spaces.proofs.Space.{Space}
use Rattle.vector_spaces.proofs.Tuples.{Tuple}
use Rattle.linear_algebra.specs.Scalars.{Scalars, IsField}
use Rattle.linear_algebra.specs.Spans.{IsIndependent}
use Rattle.linear_algebra.specs.Vectors.{IsVector, AreVectors}
use Rattle.linear_algebra.proofs.Coordinates.{tuple, space}
use Rattle.linear_algebra.proofs.Elements.{Element, scalar_field}
use Rattle.matching_state.specs.Overlaps.{IsOverlap, HaveCommonComponent}
use Rattle.matching_state.specs.LinePlaces.{IsTip, IsOuter}
use Rattle.matching_state.specs.DirectSteps.{IsTwoLineStep, TellsDirectStep}
use Rattle.matching_state.proofs.DeterminantTies.{determinant_by_elements}
use Rattle.matching_state.proofs.OneStep.{independent_by_tuples, exposed_is_new}
use Rattle.matching_state.proofs.Ties.{pairs, pair_at, at_pairs, pair_not_zero, exposed_of, coordinates_vector, in_line_vector, misses_to}
use Rattle.matching_state.proofs.Tips.{outer_of, overlap_tells}
use Rattle.overlap.specs.Pairs.{AreProportionalAt}
use Rattle.overlap.specs.Points.{HaveBothAt}
use Rattle.parity_lines.proofs.Border.{tuples_at}
use Rattle.parity_lines.specs.LineSets.{IsIndependentSet}
use Rattle.parity_lines.specs.Problems.{ParityProblem, IsProblem, vectors_at}
use Rattle.parity_theory.proofs.DirectSteps.{IsStep}
use Rattle.parity_theory.proofs.Exposure.{Exposed}
use Rattle.parity_theory.proofs.InOrder.{in_order, in_order-increases, in_order-within, in_in_order, in_order_in, in_order_independent}
use Rattle.parity_theory.proofs.Lines.{vectors, Misses}
use Rattle.parity_theory.proofs.OverlapPoints.{HasNoStep, determinant_without_step}
use Rattle.parity_theory.proofs.Overlaps.{Overlap, overlapping_differ}

-- in an increasing list one line has one index
same_index : (M : List ℕ) (i j : ℕ) → IsStrictlyIncreasing M → i < length M → j < length M → get_or M i 0 ≡ get_or M j 0 → i ≡ j
same_index M i j h k l e = elim (cases_order i j) as (λ _. i ≡ j) [
  | inl q ↦ q
  | inr s ↦ elim s as (λ _. i ≡ j) [
    | inl q ↦ absurd (let r = AllPairs-from_increasing M h i j 0 q l in omega arith)
    | inr q ↦ absurd (let r = AllPairs-from_increasing M h j i 0 q k in omega arith)
  ]
]

module _ (S : Scalars) (F : IsField S) (p : ParityProblem) (P : IsProblem S p) (M : List ℕ) (i : IsIndependentSet S p M) (e h : ℕ)
    (in_e : e < length p.lines) (in_h : h < length p.lines) (v : IsOverlap S p M e h) where
  abbrev sp : Space (scalar_field S F) (Tuple (Element S) p.dimension)
  sp = space S F p.dimension

  abbrev line : ℕ → Tuple (Element S) p.dimension × Tuple (Element S) p.dimension
  line = tuples_at S F p

  pub first_outer : (outer : List ℕ) × IsOuter S p M e outer
  first_outer = outer_of S F p P M i e in_e v.first

  pub second_outer : (outer : List ℕ) × IsOuter S p M h outer
  second_outer = outer_of S F p P M i h in_h v.second

  outer_vectors : AreVectors S p.dimension (first_outer.0 ∷ second_outer.0 ∷ [])
  outer_vectors = All-cons (IsVector S p.dimension) first_outer.0 (second_outer.0 ∷ []) (in_line_vector S F p P e first_outer.0 in_e first_outer.1.in_line)
      (All-cons (IsVector S p.dimension) second_outer.0 [] (in_line_vector S F p P h second_outer.0 in_h second_outer.1.in_line) (All-nil (IsVector S p.dimension)))

  -- whichever tips there are
  module _ (tip cs tip' cs' : List ℕ) (t : IsTip S p M e tip cs) (t' : IsTip S p M h tip' cs') where
    told : IsIndependent S p.dimension (vectors_at p M ++ first_outer.0 ∷ second_outer.0 ∷ []) × HaveCommonComponent S M cs cs'
    told = overlap_tells S F p P M i e h in_e in_h tip cs first_outer.0 tip' cs' second_outer.0 t first_outer.1 t' second_outer.1 v

    pub first_coordinates : IsVector S (2 * length M) cs
    first_coordinates = coordinates_vector S F p P M cs tip t.combines

    pub second_coordinates : IsVector S (2 * length M) cs'
    second_coordinates = coordinates_vector S F p P M cs' tip' t'.combines

    pub first_exposed : Exposed sp line M e (tuple S F p.dimension tip) (tuple S F p.dimension first_outer.0) (pairs S F cs)
    first_exposed = exposed_of S F p P M e tip cs first_outer.0 i in_e t first_outer.1

    pub second_exposed : Exposed sp line M h (tuple S F p.dimension tip') (tuple S F p.dimension second_outer.0) (pairs S F cs')
    second_exposed = exposed_of S F p P M h tip' cs' second_outer.0 i in_h t' second_outer.1

    pub outers_missed : Misses sp line M (tuple S F p.dimension first_outer.0 ∷ tuple S F p.dimension second_outer.0 ∷ [])
    outers_missed = misses_to S F p P M (first_outer.0 ∷ second_outer.0 ∷ []) i.line_set.within outer_vectors told.0

    -- both have a pair at the same index
    pub common_index : (k : ℕ) × HaveBothAt S cs cs' k
    common_index =
        let a = told.1.1 in
        let b = told.1.2 in
        let same : a.index ≡ b.index = same_index M a.index b.index i.line_set.increasing a.within b.within (a.line ∙ sym b.line) in (
          a.index,
          record {
            within = let w = a.within in let l = first_coordinates.length_is in omega arith;
            first = a.not_zero;
            second = subst (λ k. ¬ ((slice_index cs' (2 * k) ≡ S.zero) × (slice_index cs' (2 * k + 1) ≡ S.zero))) (sym same) b.not_zero;
          },
        )

    -- the overlap with the line at any such index
    module _ (k : ℕ) (b : HaveBothAt S cs cs' k) where
      pub index_within : k < length M
      index_within = let w = b.within in let l = first_coordinates.length_is in omega arith

      abbrev pub overlap_at : Overlap sp line M e h
      overlap_at = record {
        tip = tuple S F p.dimension tip;
        outer = tuple S F p.dimension first_outer.0;
        cs = pairs S F cs;
        tip' = tuple S F p.dimension tip';
        outer' = tuple S F p.dimension second_outer.0;
        cs' = pairs S F cs';
        first = first_exposed;
        second = second_exposed;
        outers = outers_missed;
        common = (
          slice_index M k,
          (
            pair_at S F cs k,
            at_pairs S F M cs k first_coordinates.length_is index_within,
            pair_not_zero S F p P M cs k first_coordinates index_within b.first,
          ),
          (
            pair_at S F cs' k,
            at_pairs S F M cs' k second_coordinates.length_is index_within,
            pair_not_zero S F p P M cs' k second_coordinates index_within b.second,
          ),
        );
      }

  pub overlap_tuples : Overlap sp line M e h
  overlap_tuples =
      let a = v.first_support in
      let b = v.second_support in
      let c = common_index a.0 a.1 b.0 b.1 a.2 b.2 in
      overlap_at a.0 a.1 b.0 b.1 a.2 b.2 c.0 c.1

  -- without a direct step the two lines can't take the place of a line
  module _ (n : TellsDirectStep S p M None) where
    module _ (m : ℕ) (N : List ℕ) (in_m : In m M) (w : IsStep M m e h N) where
      members : (l : ℕ) → In l N → (Contains M l × (l ≢ m)) ⊎ ((l ≡ e) ⊎ (l ≡ h))
      members l j = go (ℕ_discrete l e) (ℕ_discrete l h)
        where
          go : Dec (l ≡ e) → Dec (l ≡ h) → (Contains M l × (l ≢ m)) ⊎ ((l ≡ e) ⊎ (l ≡ h))
          go (yes a) b = inr (inl a)
          go (no a) (yes b) = inr (inr b)
          go (no a) (no b) = let r = w.only l j a b in inl (contains-In M l r.0, r.1)

      below : (l : ℕ) → In l N → l < length p.lines
      below l j = elim (members l j) as (λ _. l < length p.lines) [
        | inl c ↦ In-all (λ k. k < length p.lines) M i.line_set.within l (In-contains M l c.0)
        | inr s ↦ elim s as (λ _. l < length p.lines) [
          | inl q ↦ subst (λ k. k < length p.lines) (sym q) in_e
          | inr q ↦ subst (λ k. k < length p.lines) (sym q) in_h
        ]
      ]

      abbrev ordered : List ℕ
      ordered = in_order (length p.lines) N

      placed : (l : ℕ) → In l N → Contains ordered l
      placed l j = contains-In ordered l (in_in_order (length p.lines) N l j (below l j))

      step_in_order : IsTwoLineStep M m e h ordered
      step_in_order = record {
        gone = contains-In M m in_m;
        first_new = exposed_is_new S F p P M i e in_e v.first;
        second_new = exposed_is_new S F p P M i h in_h v.second;
        different = overlapping_differ sp line M e h overlap_tuples;
        lines = λ l. (
          λ c. members l (in_order_in (length p.lines) N l (In-contains ordered l c)),
          λ s. elim s as (λ _. Contains ordered l) [
            | inl c ↦ placed l (w.kept l (In-contains M l c.0) c.1)
            | inr q ↦ elim q as (λ _. Contains ordered l) [
              | inl z ↦ placed l (subst (λ k. In k N) (sym z) w.first_new)
              | inr z ↦ placed l (subst (λ k. In k N) (sym z) w.second_new)
            ]
          ],
        );
      }

      dependent : ¬ (IsIndependent_of sp (vectors line N))
      dependent j = n ordered (inr (m, e, h, step_in_order)) (independent_by_tuples S F p P M i ordered
          (record { increasing = in_order-increases (length p.lines) N; within = in_order-within (length p.lines) N })
          (in_order_independent sp line (length p.lines) N below j))

    no_step : HasNoStep sp line M e h
    no_step m N in_m w = dependent m N in_m w

    -- so where both have a pair, the pairs are proportional
    pub proportional_at : (tip cs tip' cs' : List ℕ) (t : IsTip S p M e tip cs) (t' : IsTip S p M h tip' cs') (k : ℕ) → HaveBothAt S cs cs' k →
        AreProportionalAt S cs cs' k
    proportional_at tip cs tip' cs' t t' k b =
        let c = first_coordinates tip cs tip' cs' t t' in
        let d = second_coordinates tip cs tip' cs' t t' in
        let l : 2 * k + 1 < 2 * length M = let w = b.within in let z = c.length_is in omega arith in
        elim (ℕ_discrete (S.product (slice_index cs (2 * k)) (slice_index cs' (2 * k + 1))) (S.product (slice_index cs (2 * k + 1)) (slice_index cs' (2 * k)))) [
          | yes q ↦ q
          | no q ↦ absurd (determinant_by_elements S F (2 * length M) k cs cs' c d l q
              (determinant_without_step sp line M e h (overlap_at tip cs tip' cs' t t' k b) no_step))
        ]
