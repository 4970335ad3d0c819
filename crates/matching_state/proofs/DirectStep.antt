-- What a survey of the lines tells of the sets that are one step away.
use Rattle.std.proofs.Common.{◌≡◌, ◌≢◌, ◌<◌, ◌⊎◌, inl, inr, ℕ, List, [], ◌∷◌, length, get_or, arith, sym, subst, ◌∙◌, ap}
use Rattle.std.specs.Prelude.{slice_index, ◌↔◌, Some}
use Rattle.std.specs.List.{Contains, AllPairs}
use Rattle.std.specs.List.Sorted.{IsStrictlyIncreasing}
use Rattle.std.proofs.lemmas.Bool.{cases_order}
use Rattle.std.proofs.lemmas.List.{get_or_default}
use Rattle.std.proofs.lemmas.List.Elements.{All-nil, All-cons}
use Rattle.vector_spaces.proofs.Members.{In-contains}
use Rattle.linear_algebra.specs.Scalars.{Scalars, IsScalar, IsField}
use Rattle.linear_algebra.specs.Vectors.{IsVector, AreVectors}
use Rattle.matching_state.specs.LinePlaces.{rank_beside}
use Rattle.matching_state.specs.DirectSteps.{IsAddition, IsTwoLineStep, IsDirectStep, TellsDirectStep}
use Rattle.matching_state.specs.Pairs.{HasPair, HasNoPair}
use Rattle.matching_state.specs.Sights.{outer_of}
use Rattle.matching_state.specs.Surveys.{AreApart, AreExposed, AreNumbered}
use Rattle.matching_state.specs.declared.step.Entry.{Entry}
use Rattle.matching_state.proofs.CrossLaws.{cross_of, of_cross, seen_in}
use Rattle.matching_state.proofs.OneStep.{free_line_added, added_line_free, exposed_is_new, step_lines_exposed, two_lines_in, two_lines_only, rank_of_member}
use Rattle.matching_state.proofs.Ties.{in_line_vector, misses_to, misses_from}
use Rattle.parity_lines.specs.LineSets.{IsIndependentSet}
use Rattle.parity_lines.specs.Problems.{ParityProblem, IsProblem}

module _ {X : Type 0} (xs : List (Entry X)) (r : AllPairs (λ x y. x.exposed.line < y.exposed.line) xs) where
  -- of entries in the order of their lines, earlier ones have lower lines
  line_order : (x y : Entry X) (a : Contains xs x) (b : Contains xs y) → a.0 < b.0 → x.exposed.line < y.exposed.line
  line_order x y a b l =
      let first : (get_or xs a.0 x).exposed.line ≡ x.exposed.line = ap (λ (z : Entry X). z.exposed.line) a.2 in
      let second : (get_or xs b.0 x).exposed.line ≡ y.exposed.line = ap (λ (z : Entry X). z.exposed.line) (get_or_default xs b.0 x y b.1 ∙ b.2) in
      let k = r a.0 b.0 x l b.1 in
      omega arith

  -- and one line has one
  pub same_entry : (x y : Entry X) → Contains xs x → Contains xs y → x.exposed.line ≡ y.exposed.line → x ≡ y
  same_entry x y a b e = elim (cases_order a.0 b.0) as (λ _. x ≡ y) [
    | inl q ↦ sym a.2 ∙ ap (λ n. get_or xs n x) q ∙ get_or_default xs b.0 x y b.1 ∙ b.2
    | inr s ↦ elim s [ inl l ↦ absurd (let k = line_order x y a b l in omega arith) | inr l ↦ absurd (let k = line_order y x b a l in omega arith) ]
  ]

module _ (S : Scalars) (F : IsField S) (p : ParityProblem) (P : IsProblem S p) (M : List ℕ) (i : IsIndependentSet S p M) where
  -- a free line, put in
  pub free_step : (e : ℕ) (N : List ℕ) → (e < length p.lines) × (rank_beside S p M e ≡ 2) → IsStrictlyIncreasing N → ((l : ℕ) → Contains N l ↔ (Contains M l ⊎ (l ≡ e))) → TellsDirectStep S p M (Some N)
  free_step e N f k l =
      let a : IsAddition M e N = record { new = λ c. (let z = rank_of_member S F p P M i e f.0 (In-contains M e c) in let t = f.1 in omega arith); lines = l } in
      let r = free_line_added S F p P M i N e f.0 f.1 k a in
      (r.0, inl (e, a), r.1)

  module _ {X : Type 0} (number : X → ℕ) (hn : (t : X) → IsScalar S (number t)) (xs : List (Entry X)) (a : AreExposed S number p M (length p.lines) xs) (numbers : AreNumbered S p M xs) where
    outers : (x y : Entry X) → Contains xs x → Contains xs y → AreVectors S p.dimension (outer_of p x.exposed.line x.exposed.second ∷ outer_of p y.exposed.line y.exposed.second ∷ [])
    outers x y b c =
        let s = seen_in S number p M xs a.seen x b in
        let t = seen_in S number p M xs a.seen y c in
        All-cons (IsVector S p.dimension) (outer_of p x.exposed.line x.exposed.second) (outer_of p y.exposed.line y.exposed.second ∷ []) (in_line_vector S F p P x.exposed.line _ s.within s.outer.in_line)
        (All-cons (IsVector S p.dimension) (outer_of p y.exposed.line y.exposed.second) [] (in_line_vector S F p P y.exposed.line _ t.within t.outer.in_line) (All-nil (IsVector S p.dimension)))

    new_line : (x : Entry X) (e : ℕ) → Contains xs x → x.exposed.line ≡ e → ¬ (Contains M e)
    new_line x e c q = let s = seen_in S number p M xs a.seen x c in subst (λ l. ¬ (Contains M l)) q (exposed_is_new S F p P M i x.exposed.line s.within s.exposed)

    module _ (k e h : ℕ) (w : HasPair S number p M xs k e h) where
      pub pair_first_new : ¬ (Contains M e)
      pair_first_new = new_line w.first e w.first_in w.first_line

      pub pair_second_new : ¬ (Contains M h)
      pair_second_new = new_line w.second h w.second_in w.second_line

      pub pair_different : e ≢ h
      pair_different q = w.apart (ap (λ (z : Entry X). z.class) (same_entry xs a.increasing w.first w.second w.first_in w.second_in (w.first_line ∙ q ∙ sym w.second_line)))

      -- two lines in the place of one
      pub pair_step : (N : List ℕ) → k < length M → IsStrictlyIncreasing N → IsTwoLineStep M (slice_index M k) e h N → TellsDirectStep S p M (Some N)
      pair_step N in_k l t =
          let x = w.first in
          let y = w.second in
          let s = seen_in S number p M xs a.seen x w.first_in in
          let u = seen_in S number p M xs a.seen y w.second_in in
          let t' : IsTwoLineStep M (slice_index M k) x.exposed.line y.exposed.line N =
          subst (λ n. IsTwoLineStep M (slice_index M k) n y.exposed.line N) (sym w.first_line) (subst (λ n. IsTwoLineStep M (slice_index M k) e n N) (sym w.second_line) t) in
          let r = two_lines_in S F p P M i x.exposed.line y.exposed.line s.within u.within s.tip s.coordinates _ u.tip u.coordinates _ s.tip_is s.outer u.tip_is u.outer k in_k N t' l
          (misses_to S F p P M _ i.line_set.within (outers x y w.first_in w.second_in) ((numbers x y w.first_in w.second_in).0 w.apart))
          (of_cross S F p P M i number hn k in_k x.exposed s y.exposed u w.cross) in
          (r.0, inr (slice_index M k, e, h, t), r.1)

    -- where there is no pair, no set that is one step away is independent
    no_two_lines : ((k : ℕ) → k < length M → HasNoPair S number p M xs k) → (N : List ℕ) (m e h : ℕ) → IsTwoLineStep M m e h N → ¬ (IsIndependentSet S p N)
    no_two_lines n N m e h w j =
        let r = step_lines_exposed S F p P M i N m e h w j (a.not_free e) (a.not_free h) in
        let x = a.all e r.0 r.2 in
        let y = a.all h r.1 r.3 in
        let s = seen_in S number p M xs a.seen x.0 x.1 in
        let u = seen_in S number p M xs a.seen y.0 y.1 in
        let k : ℕ = w.gone.0 in
        let in_k : k < length M = w.gone.1 in
        let at : m ≡ slice_index M k = sym (get_or_default M k 0 m w.gone.1 ∙ w.gone.2) in
        let t : IsTwoLineStep M (slice_index M k) x.0.exposed.line y.0.exposed.line N = subst (λ q. IsTwoLineStep M q x.0.exposed.line y.0.exposed.line N) at
        (subst (λ q. IsTwoLineStep M m q y.0.exposed.line N) (sym x.2) (subst (λ q. IsTwoLineStep M m e q N) (sym y.2) w)) in
        let q = two_lines_only S F p P M i x.0.exposed.line y.0.exposed.line s.within u.within s.tip s.coordinates _ u.tip u.coordinates _ s.tip_is s.outer u.tip_is u.outer k in_k N t j in
        let apart : AreApart S p M x.0.exposed y.0.exposed = misses_from S F p P M _ i.line_set.within (outers x.0 y.0 x.1 y.1) q.0 in
        n k in_k x.0 y.0 x.1 y.1 ((numbers x.0 y.0 x.1 y.1).1 apart) (cross_of S F p P M i number hn k in_k x.0.exposed s y.0.exposed u q.1)

    pub no_step : ((k : ℕ) → k < length M → HasNoPair S number p M xs k) → (N : List ℕ) → IsDirectStep M N → ¬ (IsIndependentSet S p N)
    no_step n N (inl (e, w)) j = let r = added_line_free S F p P M i N e w j in a.not_free e r.0 r.1
    no_step n N (inr (m, e, h, w)) j = no_two_lines n N m e h w j
