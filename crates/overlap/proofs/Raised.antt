-- A set that misses the point of an overlap never settles at the lines of the overlap.
use Rattle.std.proofs.Common.{◌≡◌, ℕ, ◌<◌, ◌⊎◌, inl, inr, List, [], ◌∷◌, All, length, subst, sym, ap, ◌∙◌}
use Rattle.std.specs.Prelude.{◌↔◌}
use Rattle.std.specs.List.{Contains}
use Rattle.std.proofs.lemmas.List.Elements.{All-nil, All-cons}
use Rattle.vector_spaces.proofs.Members.{In, In-all, all-In, contains-In, In-contains}
use Rattle.vector_spaces.proofs.Space.{Space}
use Rattle.vector_spaces.proofs.Tuples.{Tuple}
use Rattle.vector_spaces.proofs.Within.{through}
use Rattle.linear_algebra.specs.Scalars.{Scalars, IsField}
use Rattle.linear_algebra.specs.Vectors.{IsVector, AreVectors}
use Rattle.linear_algebra.proofs.Coordinates.{tuple, space}
use Rattle.linear_algebra.proofs.Elements.{Element, scalar_field}
use Rattle.exchanges.specs.Exchanges.{IsSettled, StillMisses}
use Rattle.exchanges.proofs.SettledSets.{settled_tuples}
use Rattle.field_core.specs.Matrix.{Matrix}
use Rattle.matching_state.specs.Chosen.{Chosen}
use Rattle.matching_state.specs.States.{IsStateOf}
use Rattle.matching_state.specs.Missing.{Misses}
use Rattle.matching_state.specs.Overlaps.{IsOverlap}
use Rattle.matching_state.proofs.Ties.{span_to, misses_to}
use Rattle.overlap.specs.PointedOverlaps.{IsPoint}
use Rattle.overlap.proofs.OverlapTies.{overlap_tuples}
use Rattle.parity_lines.proofs.Border.{tuples_at, independent_lines}
use Rattle.parity_lines.specs.LineSets.{IsIndependentSet}
use Rattle.parity_lines.specs.Problems.{ParityProblem, IsProblem}
use Rattle.parity_theory.proofs.InOrder.{in_order, in_order-increases, in_order-within, in_order_in, independent_of_in_order}
use Rattle.parity_theory.proofs.Lines.{vectors}
use Rattle.parity_theory.proofs.OverlapPoints.{IsSpannedByDependent}
use Rattle.parity_theory.proofs.Overlaps.{Overlap, overlap_line_independent}
use Rattle.parity_theory.proofs.Positions.{within_lines}
use Rattle.parity_theory.proofs.Raising.{raise_never_settles}

-- T has the lines of M, and e and h
abbrev pub HasLines : List ℕ → List ℕ → ℕ → ℕ → Type 0
HasLines T M e h = (l : ℕ) → Contains T l ↔ (Contains M l ⊎ ((l ≡ e) ⊎ (l ≡ h)))

pub lines_named : (T M L : List ℕ) (e h n k : ℕ) → L ≡ M → n ≡ e → k ≡ h → HasLines T L n k → HasLines T M e h
lines_named T M L e h n k a b c t = subst (λ (N : List ℕ). HasLines T N e h) a
    (subst (λ (m : ℕ). HasLines T L m h) b (subst (λ (m : ℕ). HasLines T L n m) c t))

module _ (S : Scalars) (F : IsField S) (p : ParityProblem) (P : IsProblem S p) (M : List ℕ) (i : IsIndependentSet S p M) (e h : ℕ)
    (in_e : e < length p.lines) (in_h : h < length p.lines) (v : IsOverlap S p M e h) (point : List ℕ) (x : IsPoint S p M e h point) where
  abbrev sp : Space (scalar_field S F) (Tuple (Element S) p.dimension)
  sp = space S F p.dimension

  abbrev line : ℕ → Tuple (Element S) p.dimension × Tuple (Element S) p.dimension
  line = tuples_at S F p

  overlap : Overlap sp line M e h
  overlap = overlap_tuples S F p P M i e h in_e in_h v

  lines_below : (l : ℕ) → In l (e ∷ h ∷ M) → l < length p.lines
  lines_below l (inl q) = subst (λ k. k < length p.lines) (sym q) in_e
  lines_below l (inr (inl q)) = subst (λ k. k < length p.lines) (sym q) in_h
  lines_below l (inr (inr j)) = In-all (λ k. k < length p.lines) M i.line_set.within l j

  spanned : IsSpannedByDependent sp line M e h (tuple S F p.dimension point)
  spanned Y y d n =
      let k : ℕ = length p.lines in
      let N : List ℕ = in_order k Y in
      let below : (l : ℕ) → In l Y → l < k = λ l j. lines_below l (y l j) in
      let within : All (λ m. m < k) N = in_order-within k Y in
      through sp (vectors line N) (vectors line Y) (tuple S F p.dimension point) (within_lines sp line N Y (in_order_in k Y))
      (span_to S F p P N point within
      (x.spanned N (record { increasing = in_order-increases k Y; within = within })
      (λ l c. elim (y l (in_order_in k Y l (In-contains N l c))) as (λ _. Contains M l ⊎ ((l ≡ e) ⊎ (l ≡ h))) [
        | inl q ↦ inr (inl q)
        | inr s ↦ elim s as (λ _. Contains M l ⊎ ((l ≡ e) ⊎ (l ≡ h))) [ inl q ↦ inr (inr q) | inr j ↦ inl (contains-In M l j) ]
      ])
      (λ j. n (independent_of_in_order sp line k Y below d (independent_lines S F p P N within j)))))

  -- T has the lines of the overlap, and N is as long as M
  module _ (T : List ℕ) (t : HasLines T M e h) where
    among : (l : ℕ) → In l T → In l (e ∷ h ∷ M)
    among l j = elim ((t l).0 (contains-In T l j)) as (λ _. In l (e ∷ h ∷ M)) [
      | inl c ↦ inr (inr (In-contains M l c))
      | inr s ↦ elim s as (λ _. In l (e ∷ h ∷ M)) [ inl q ↦ inl q | inr q ↦ inr (inl q) ]
    ]

    all : (l : ℕ) → In l (e ∷ h ∷ M) → In l T
    all l (inl q) = In-contains T l ((t l).1 (inr (inl q)))
    all l (inr (inl q)) = In-contains T l ((t l).1 (inr (inr q)))
    all l (inr (inr j)) = In-contains T l ((t l).1 (inl (contains-In M l j)))

    target_within : All (λ m. m < length p.lines) T
    target_within = all-In (λ m. m < length p.lines) T (λ l j. lines_below l (among l j))

    never_settles : (N : List ℕ) → IsIndependentSet S p N → length N ≡ length M → Misses S p N (point ∷ []) → ¬ (IsSettled S p (point ∷ []) T N)
    never_settles N j len m s =
        let k : AreVectors S p.dimension (point ∷ []) =
        All-cons (IsVector S p.dimension) point [] x.vector (All-nil (IsVector S p.dimension)) in
        raise_never_settles sp line M e h (tuple S F p.dimension point) overlap spanned T among N all len
        (misses_to S F p P N (point ∷ []) j.line_set.within k m)
        (settled_tuples S F p P N j (point ∷ []) k m T target_within s
        (λ l q. overlap_line_independent sp line M e h overlap l (among l q)))

    -- nor does one that is reached from it, in the words of a walk
    walk_never_settles : (K N : List ℕ) (keep : List (List ℕ)) (q : ParityProblem) → q ≡ p → keep ≡ point ∷ [] → length K ≡ length M →
        StillMisses S q keep K N → ¬ (IsSettled S q keep T N)
    walk_never_settles K N keep q e w len k s =
        let kept : StillMisses S p (point ∷ []) K N =
        subst (λ (vs : List (List ℕ)). StillMisses S p vs K N) w (subst (λ (r : ParityProblem). StillMisses S r keep K N) e k) in
        let settled : IsSettled S p (point ∷ []) T N =
        subst (λ (vs : List (List ℕ)). IsSettled S p vs T N) w (subst (λ (r : ParityProblem). IsSettled S r keep T N) e s) in
        never_settles N kept.independent (kept.as_long ∙ len) kept.missed settled

    -- the same of a state that is made for a problem q, which is p, and a set K, where keep has the point alone, as it is seen
    pub within_state : (state : Chosen) (q : ParityProblem) (K : List ℕ) → IsStateOf q K state → q ≡ p →
        All (λ m. m < length state.problem.lines) T
    within_state state q K is is_p =
        subst (λ (r : ParityProblem). All (λ m. m < length r.lines) T) (sym (is.problem ∙ is_p)) target_within

    pub state_never_settles : (state : Chosen) (q : ParityProblem) (K N : List ℕ) (keep : Matrix) (seen : List ℕ) (n : ℕ) →
        IsStateOf q K state → q ≡ p → keep ≡ record { width = n; rows = seen ∷ [] } → seen ≡ point →
        length K ≡ length M → StillMisses S state.problem keep.rows state.set N → ¬ (IsSettled S state.problem keep.rows T N)
    state_never_settles state q K N keep seen n is is_p is_keep is_seen len k s =
        walk_never_settles state.set N keep.rows state.problem (is.problem ∙ is_p)
        (ap (λ (m : Matrix). m.rows) is_keep ∙ ap (λ (v : List ℕ). v ∷ []) is_seen) (ap length is.set ∙ len) k s
