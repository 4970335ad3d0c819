-- A free line more, and an exposed line in the place of a line of its support: the new set is independent, in any order.
use Rattle.std.proofs.Common.{◌≡◌, ◌≢◌, ℕ, suc, ◌*◌, ◌<◌, ◌≤◌, ◌⊎◌, inl, inr, List, [], ◌∷◌, ◌++◌, length, refl, sym, ap, ◌∙◌, subst, arith, All}
use Rattle.std.specs.Prelude.{◌↔◌}
use Rattle.std.specs.List.{Contains}
use Rattle.std.specs.List.Sorted.{IsStrictlyIncreasing}
use Rattle.std.proofs.lemmas.List.{length-append}
use Rattle.std.proofs.lemmas.List.Elements.{All-push, Contains-get_or}
use Rattle.vector_spaces.proofs.Members.{In, In-append, In-append_left, In-append_right, In-all, all-In, contains-In, In-contains}
use Rattle.vector_spaces.proofs.Middles.{in_split, length-middle}
use Rattle.vector_spaces.proofs.Independence.{IsIndependent as IsIndependent_of}
use Rattle.vector_spaces.proofs.Space.{Space}
use Rattle.vector_spaces.proofs.Tuples.{Tuple}
use Rattle.linear_algebra.specs.Scalars.{Scalars, IsField}
use Rattle.linear_algebra.specs.Spans.{InSpan, IsIndependent}
use Rattle.linear_algebra.specs.Vectors.{IsVector, AreVectors}
use Rattle.linear_algebra.proofs.Coordinates.{tuple, space}
use Rattle.linear_algebra.proofs.Elements.{Element, scalar_field}
use Rattle.linear_algebra.proofs.IndependenceLaws.{independent_no_longer}
use Rattle.linear_algebra.proofs.Transfer.{independent_from_tuples}
use Rattle.coordinates.specs.Bases.{unit_vectors}
use Rattle.coordinates.proofs.Coordinates.{basis_spans}
use Rattle.coordinates.proofs.Units.{length-units, units_basis}
use Rattle.matching_state.specs.DirectSteps.{IsSwap}
use Rattle.matching_state.specs.LinePlaces.{IsExposed, IsOuter, rank_beside}
use Rattle.matching_state.specs.Overlaps.{InSupport}
use Rattle.matching_state.proofs.OneStep.{exposed_is_new, rank_of_member}
use Rattle.matching_state.proofs.Orders.{taken_out}
use Rattle.matching_state.proofs.StepSets.{Among}
use Rattle.matching_state.proofs.Ties.{pairs, exposed_of, coordinates_vector, component_in_support, rank_free}
use Rattle.matching_state.proofs.Tips.{outer_of}
use Rattle.parity_lines.proofs.Border.{vectors_at-vectors, tuples_at, tuples-vectors_at}
use Rattle.parity_lines.proofs.IndependentLines.{length-vectors_at}
use Rattle.parity_lines.specs.LineSets.{IsIndependentSet}
use Rattle.parity_lines.specs.Problems.{ParityProblem, IsProblem, vectors_at}
use Rattle.parity_theory.proofs.Exchanges.{IsSwap as IsSwap_of, add_line, exchange_independent}
use Rattle.parity_theory.proofs.Exposure.{Exposed}
use Rattle.parity_theory.proofs.Lines.{vectors}
use Rattle.parity_theory.proofs.Places.{independent_of_free}
use Rattle.parity_theory.proofs.Supports.{InSupport as InSupport_of}

-- the set without the one line, and then with the other
pub swap_made : (M K N : List ℕ) (out into : ℕ) → Contains M out → ¬ (Contains M into) →
    ((l : ℕ) → Contains K l ↔ (Contains M l × (l ≢ out))) → ((l : ℕ) → Contains N l ↔ (Contains K l ⊎ (l ≡ into))) → IsSwap M out into N
swap_made M K N out into g n a b = record {
  gone = g;
  new = n;
  lines = λ l. (
    λ c. elim ((b l).0 c) [ inl j ↦ inl ((a l).0 j) | inr e ↦ inr e ],
    λ c. (b l).1 (elim c as (λ _. Contains K l ⊎ (l ≡ into)) [ inl j ↦ inl ((a l).1 j) | inr e ↦ inr e ]),
  );
}

module _ (S : Scalars) (F : IsField S) (p : ParityProblem) (P : IsProblem S p) where
  abbrev sp : Space (scalar_field S F) (Tuple (Element S) p.dimension)
  sp = space S F p.dimension

  abbrev line : ℕ → Tuple (Element S) p.dimension × Tuple (Element S) p.dimension
  line = tuples_at S F p

  -- independent vectors are no more than the dimension
  pub no_more : (vs : List (List ℕ)) → AreVectors S p.dimension vs → IsIndependent S p.dimension vs → length vs ≤ p.dimension
  no_more vs h i =
      let us = unit_vectors S p.dimension in
      let basis = units_basis S F p.dimension in
      let l = independent_no_longer S F p.dimension vs us h basis.vectors i
      (all-In (InSpan S p.dimension us) vs (λ v m. basis_spans S F p.dimension us basis v (In-all (IsVector S p.dimension) vs h v m))) in
      let e = length-units S F p.dimension in
      omega arith

  pub lines_fit : (M : List ℕ) → All (λ m. m < length p.lines) M → IsIndependent S p.dimension (vectors_at p M) → 2 * length M ≤ p.dimension
  lines_fit M h i =
      let l = no_more (vectors_at p M) (vectors_at-vectors S p P M h) i in
      let e = length-vectors_at p M in
      omega arith

  -- lines whose tuples are independent
  from_tuples : (N : List ℕ) → All (λ m. m < length p.lines) N → IsIndependent_of sp (vectors line N) → IsIndependent S p.dimension (vectors_at p N)
  from_tuples N l j =
      independent_from_tuples S F p.dimension (vectors_at p N) (vectors_at-vectors S p P N l) (subst (IsIndependent_of sp) (sym (tuples-vectors_at S F p N)) j)

  last_in : (K : List ℕ) (e : ℕ) → In e (K ++ e ∷ [])
  last_in K e = In-append_right e K (e ∷ []) (inl refl)

  within_more : (K : List ℕ) (e : ℕ) → All (λ m. m < length p.lines) K → e < length p.lines → All (λ m. m < length p.lines) (K ++ e ∷ [])
  within_more K e h l = All-push (λ m. m < length p.lines) K e h l

  module _ (M : List ℕ) (i : IsIndependentSet S p M) where
    -- a free line behind the others
    pub free_is_new : (e : ℕ) → e < length p.lines → rank_beside S p M e ≡ 2 → ¬ (Contains M e)
    free_is_new e h r c = let z = rank_of_member S F p P M i e h (In-contains M e c) in omega arith

    pub free_behind : (e : ℕ) → e < length p.lines → rank_beside S p M e ≡ 2 → IsIndependent S p.dimension (vectors_at p (M ++ e ∷ []))
    free_behind e h r =
        from_tuples (M ++ e ∷ []) (within_more M e i.line_set.within h)
        (add_line sp line M (M ++ e ∷ []) e (independent_of_free sp line M e (rank_free S F p P M e i h r)) into (let n = length-append M (e ∷ []) in omega arith))
      where
        into : Among (e ∷ M) (M ++ e ∷ [])
        into l (inl q) = subst (λ t. In t (M ++ e ∷ [])) (sym q) (last_in M e)
        into l (inr j) = In-append_left l M (e ∷ []) j

    module _ (out into : ℕ) (h : into < length p.lines) (x : IsExposed S p M into) (support : InSupport S p M into out) where
      pub an_outer : (outer : List ℕ) × IsOuter S p M into outer
      an_outer = outer_of S F p P M i into h x

      pub exposed_here : Exposed sp line M into (tuple S F p.dimension support.0) (tuple S F p.dimension an_outer.0) (pairs S F support.1)
      exposed_here = exposed_of S F p P M into support.0 support.1 an_outer.0 i h support.2 an_outer.1

      pub in_support_here : InSupport_of (scalar_field S F) out (pairs S F support.1) M
      in_support_here = component_in_support S F p P M support.1 out (coordinates_vector S F p P M support.1 support.0 support.2.combines) support.3

      pub goes_out : Contains M out
      goes_out = subst (λ l. Contains M l) support.3.line (Contains-get_or M support.3.index 0 support.3.within)

      pub comes_in : ¬ (Contains M into)
      comes_in = exposed_is_new S F p P M i into h x

      -- K is the set without the line that goes out
      module _ (K : List ℕ) (k : IsStrictlyIncreasing K) (a : (l : ℕ) → Contains K l ↔ (Contains M l × (l ≢ out))) where
        one_less : suc (length K) ≡ length M
        one_less =
            let s = in_split out M (In-contains M out goes_out) in
            let e = ap length (taken_out M K s.0 s.1 out s.2 i.line_set.increasing k a) in
            let t = ap length s.2 ∙ length-middle s.0 out s.1 in
            omega arith

        from_behind : (l : ℕ) → In l (K ++ into ∷ []) → In l K ⊎ (l ≡ into)
        from_behind l j = elim (In-append l K (into ∷ []) j) as (λ _. In l K ⊎ (l ≡ into)) [
          | inl q ↦ inl q
          | inr q ↦ elim q [ inl e ↦ inr e | inr n ↦ absurd n ]
        ]

        swapped : IsSwap_of M out into (K ++ into ∷ [])
        swapped = record {
          gone = In-contains M out goes_out;
          new = last_in K into;
          kept = λ l j n. In-append_left l K (into ∷ []) (In-contains K l ((a l).1 (contains-In M l j, n)));
          only = λ l j n. elim (from_behind l j) as (λ _. In l M × (l ≢ out)) [
            | inl q ↦ let c = (a l).0 (contains-In K l q) in (In-contains M l c.0, c.1)
            | inr e ↦ absurd (n e)
          ];
          same_length = let s = length-append K (into ∷ []) in let t = one_less in omega arith;
        }

        pub rest_within : All (λ m. m < length p.lines) K
        rest_within = all-In (λ m. m < length p.lines) K (λ l j. In-all (λ m. m < length p.lines) M i.line_set.within l (In-contains M l ((a l).0 (contains-In K l j)).0))

        pub exchanged_behind : IsIndependent S p.dimension (vectors_at p (K ++ into ∷ []))
        exchanged_behind =
            from_tuples (K ++ into ∷ []) (within_more K into rest_within h)
            (exchange_independent sp line M (K ++ into ∷ []) out into _ _ _ exposed_here in_support_here swapped)
