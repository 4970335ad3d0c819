-- From one set to another, line by line: the lines that are left out, and those that come in.
use Rattle.std.proofs.Math.Path.{subst⁻¹}
use Rattle.std.proofs.Common.{Bool, false, ◌≡◌, ◌≢◌, ℕ, ◌+◌, ◌<◌, ◌≤◌, ◌⊎◌, inl, inr, List, [], ◌∷◌, ◌++◌, length, get_or, take, drop, refl, sym, ap, ◌∙◌, subst}
use Rattle.std.specs.Prelude.{◌↔◌, IsTrue}
use Rattle.std.specs.List.{Contains, filter}
use Rattle.std.specs.List.Sorted.{IsStrictlyIncreasing}
use Rattle.std.proofs.lemmas.List.{drop_all, drop_more, take_all, take_more}
use Rattle.vector_spaces.proofs.Distinct.{IsDistinct, distinct_at_most, distinct_middle}
use Rattle.vector_spaces.proofs.Independence.{IsIndependent as IsIndependent_of, sublist_independent}
use Rattle.vector_spaces.proofs.Members.{In, In-append, In-append_right, In-all, contains-In, In-contains}
use Rattle.vector_spaces.proofs.Space.{Space}
use Rattle.vector_spaces.proofs.Tuples.{Tuple}
use Rattle.linear_algebra.specs.Scalars.{Scalars, IsField}
use Rattle.linear_algebra.proofs.Coordinates.{space}
use Rattle.linear_algebra.proofs.Elements.{Element, scalar_field}
use Rattle.matching_state.specs.Bases.{IsKept}
use Rattle.matching_state.specs.Chosen.{Chosen}
use Rattle.matching_state.specs.LinePlaces.{rank_beside}
use Rattle.matching_state.proofs.Kept.{kept_problem}
use Rattle.matching_state.proofs.OneStep.{tuples_independent}
use Rattle.matching_state.proofs.Orders.{around, rises, same_members}
use Rattle.matching_state.proofs.PairTests.{false_is_not}
use Rattle.matching_state.proofs.StepSets.{increasing_distinct}
use Rattle.matching_state.proofs.Ties.{free_rank}
use Rattle.parity_lines.proofs.Border.{tuples_at}
use Rattle.parity_lines.specs.LineSets.{IsIndependentSet}
use Rattle.parity_lines.specs.Problems.{ParityProblem, IsProblem}
use Rattle.parity_theory.proofs.Exchanges.{line_added}
use Rattle.parity_theory.proofs.Lines.{vectors}
use Rattle.parity_theory.proofs.Parts.{has, has_in, in_has}
use Rattle.parity_theory.proofs.Places.{free_of_independent}
use Rattle.parity_theory.proofs.Positions.{filter_in, filter_only, sub_filter, sub_vectors}

-- the lines of `before` from the index i on are held, and no others but some of `other`
pub record IsLeaving (before other held : List ℕ) (i : ℕ) : Type 0 where
  pub still : (l : ℕ) → In l (drop i before) → In l held
  pub only : (l : ℕ) → In l held → In l other ⊎ In l (drop i before)

pub none_left : (before other : List ℕ) → IsLeaving before other before 0
none_left before other = record { still = λ l j. j; only = λ l j. inr j }

module _ (before other held : List ℕ) (i m : ℕ) (inside : i < length before) (at : m ≡ get_or before i 0) (h : IsLeaving before other held i) where
  next : drop i before ≡ m ∷ drop (i + 1) before
  next = drop_more before i 0 inside ∙ ap (λ x. x ∷ drop (i + 1) before) (sym at)

  behind : (l : ℕ) → In l (drop (i + 1) before) → In l (drop i before)
  behind l j = subst (In l) (sym next) (inr j)

  at_or_behind : (l : ℕ) → In l (drop i before) → (l ≡ m) ⊎ In l (drop (i + 1) before)
  at_or_behind l j = subst (In l) next j

  pub still_held : Contains held m
  still_held = contains-In held m (h.still m (subst (In m) (sym next) (inl refl)))

  -- a line of both sets stays
  pub one_stays : Contains other m → IsLeaving before other held (i + 1)
  one_stays c = record {
    still = λ l j. h.still l (behind l j);
    only = λ l j. elim (h.only l j) as (λ _. In l other ⊎ In l (drop (i + 1) before)) [
      | inl o ↦ inl o
      | inr k ↦ elim (at_or_behind l k) as (λ _. In l other ⊎ In l (drop (i + 1) before)) [
        | inl e ↦ inl (subst (λ t. In t other) (sym e) (In-contains other m c))
        | inr b ↦ inr b
      ]
    ];
  }

  -- the others are taken out
  pub one_left : IsStrictlyIncreasing before → (after : List ℕ) → ((l : ℕ) → Contains after l ↔ (Contains held l × (l ≢ m))) → IsLeaving before other after (i + 1)
  one_left k after a = record {
    still = λ l j. In-contains after l ((a l).1 (contains-In held l (h.still l (behind l j)), λ e. once (subst (λ t. In t (drop (i + 1) before)) e j)));
    only = λ l j.
        let c = (a l).0 (contains-In after l j) in
        elim (h.only l (In-contains held l c.0)) as (λ _. In l other ⊎ In l (drop (i + 1) before)) [
          | inl o ↦ inl o
          | inr b ↦ elim (at_or_behind l b) as (λ _. In l other ⊎ In l (drop (i + 1) before)) [ inl e ↦ absurd (c.1 e) | inr d ↦ inr d ]
        ];
  }
    where
      once : ¬ (In m (drop (i + 1) before))
      once j =
          distinct_middle (take i before) m (drop (i + 1) before) (subst (λ t. IsDistinct t) (around before i m inside (sym at)) (increasing_distinct before k))
          (In-append_right m (take i before) (drop (i + 1) before) j)

pub all_left : (before other held : List ℕ) (i : ℕ) → length before ≤ i → IsLeaving before other held i → (l : ℕ) → Contains held l → Contains other l
all_left before other held i s h l c = contains-In other l (elim (h.only l (In-contains held l c)) [
  | inl o ↦ o
  | inr j ↦ absurd (subst (In l) (drop_all i before s) j)
])

-- lines of `other` are held, among them the first i
pub record IsEntering (other held : List ℕ) (i : ℕ) : Type 0 where
  pub within : (l : ℕ) → In l held → In l other
  pub first : (l : ℕ) → In l (take i other) → In l held

pub none_in : (other held : List ℕ) → ((l : ℕ) → Contains held l → Contains other l) → IsEntering other held 0
none_in other held h = record { within = λ l j. In-contains other l (h l (contains-In held l j)); first = λ l j. absurd j }

module _ (other held : List ℕ) (i m : ℕ) (inside : i < length other) (at : m ≡ get_or other i 0) (h : IsEntering other held i) where
  one_more : take (i + 1) other ≡ take i other ++ m ∷ []
  one_more = take_more other i 0 inside ∙ ap (λ x. take i other ++ x ∷ []) (sym at)

  before_or_at : (l : ℕ) → In l (take (i + 1) other) → In l (take i other) ⊎ (l ≡ m)
  before_or_at l j = elim (In-append l (take i other) (m ∷ []) (subst (In l) one_more j)) as (λ _. In l (take i other) ⊎ (l ≡ m)) [
    | inl b ↦ inl b
    | inr r ↦ elim r [ inl e ↦ inr e | inr n ↦ absurd n ]
  ]

  pub is_of_other : In m other
  is_of_other = subst (In m) (sym (around other i m inside (sym at))) (In-append_right m (take i other) (m ∷ drop (i + 1) other) (inl refl))

  -- a line that is held already
  pub one_there : Contains held m → IsEntering other held (i + 1)
  one_there c = record {
    within = h.within;
    first = λ l j. elim (before_or_at l j) as (λ _. In l held) [ inl b ↦ h.first l b | inr e ↦ subst (λ t. In t held) (sym e) (In-contains held m c) ];
  }

  -- one that is put in
  pub one_in : (after : List ℕ) → ((l : ℕ) → Contains after l ↔ (Contains held l ⊎ (l ≡ m))) → IsEntering other after (i + 1)
  one_in after a = record {
    within = λ l j. elim ((a l).0 (contains-In after l j)) as (λ _. In l other) [
      | inl c ↦ h.within l (In-contains held l c)
      | inr e ↦ subst (λ t. In t other) (sym e) is_of_other
    ];
    first = λ l j. In-contains after l ((a l).1 (elim (before_or_at l j) as (λ _. Contains held l ⊎ (l ≡ m)) [
      | inl b ↦ inl (contains-In held l (h.first l b))
      | inr e ↦ inr e
    ]));
  }

pub all_in : (other held : List ℕ) (i : ℕ) → IsStrictlyIncreasing other → IsStrictlyIncreasing held → length other ≤ i → IsEntering other held i → held ≡ other
all_in other held i k s l h =
    same_members held other (rises held s) (rises other k) h.within (λ m j. h.first m (subst (In m) (sym (take_all i other l)) j))

-- a line that isn't held, as a test tells
pub is_new : (b : Bool) (X M : List ℕ) (m : ℕ) → X ≡ M → (IsTrue b ↔ Contains X m) → b ≡ false → ¬ (Contains M m)
is_new b X M m x h e c = false_is_not b e (h.1 (subst (λ Y. Contains Y m) (sym x) c))

-- a line of an independent set is free beside others of its lines
module _ (S : Scalars) (F : IsField S) (s : Chosen) (K : IsKept S s) (q : ParityProblem) (same : s.problem ≡ q) (N : List ℕ) (of : IsIndependentSet S q N) where
  abbrev sp : Space (scalar_field S F) (Tuple (Element S) s.problem.dimension)
  sp = space S F s.problem.dimension

  abbrev line : ℕ → Tuple (Element S) s.problem.dimension × Tuple (Element S) s.problem.dimension
  line = tuples_at S F s.problem

  P : IsProblem S s.problem
  P = kept_problem S F s K

  j : IsIndependentSet S s.problem N
  j = subst⁻¹ (λ r. IsIndependentSet S r N) same of

  some_independent : (t : ℕ → Bool) → IsIndependent_of sp (vectors line (filter t N))
  some_independent t =
      sublist_independent sp (vectors line (filter t N)) (vectors line N) (tuples_independent S F s.problem P N j N j) (sub_vectors line (filter t N) N (sub_filter t N))

  pub other_free : (e : ℕ) → In e N → ¬ (Contains s.set e) → ((l : ℕ) → In l s.set → In l N) → (e < length s.problem.lines) × (rank_beside S s.problem s.set e ≡ 2)
  other_free e c n a =
      let L = e ∷ s.set in
      let within : e < length s.problem.lines = In-all (λ m. m < length s.problem.lines) N j.line_set.within e c in
      let enough = distinct_at_most L (filter (has L) N) (λ q. n (contains-In s.set e q), increasing_distinct s.set K.independent.line_set.increasing) into in (
        within,
        free_rank S F s.problem P s.set e K.independent within (free_of_independent sp line s.set e
            (line_added sp line s.set (filter (has L) N) e (some_independent (has L)) (λ l q. has_in L l (filter_only (has L) N l q)) enough)),
      )
    where
      into : (l : ℕ) → In l (e ∷ s.set) → In l (filter (has (e ∷ s.set)) N)
      into l q = filter_in (has (e ∷ s.set)) N l (elim q as (λ _. In l N) [ inl t ↦ subst (λ t. In t N) (sym t) c | inr r ↦ a l r ]) (in_has (e ∷ s.set) l q)
