-- Sets that are one step from an independent set: when they are independent.
use Rattle.std.proofs.Common.{◌≡◌, ◌≢◌, ◌<◌, ◌*◌, inl, inr, ℕ, suc, List, [], ◌∷◌, All, length, arith, refl, sym, subst}
use Rattle.std.specs.Prelude.{slice_index}
use Rattle.std.specs.List.{Contains}
use Rattle.std.specs.List.Sorted.{IsStrictlyIncreasing}
use Rattle.vector_spaces.proofs.Independence.{IsIndependent as IsIndependent_of}
use Rattle.vector_spaces.proofs.Members.{In, In-all, all-In, contains-In, In-contains}
use Rattle.vector_spaces.proofs.Space.{Space}
use Rattle.vector_spaces.proofs.Tuples.{Tuple}
use Rattle.linear_algebra.specs.Scalars.{Scalars, IsField}
use Rattle.linear_algebra.specs.Vectors.{IsVector}
use Rattle.linear_algebra.proofs.Coordinates.{tuple, space}
use Rattle.linear_algebra.proofs.Elements.{Element, scalar_field}
use Rattle.linear_algebra.proofs.Transfer.{independent_from_tuples}
use Rattle.matching_state.specs.LinePlaces.{IsExposed, IsTip, IsOuter, rank_beside}
use Rattle.matching_state.specs.DirectSteps.{IsAddition, IsTwoLineStep, HasDeterminantAt}
use Rattle.matching_state.proofs.DeterminantTies.{determinant_by_elements, determinant_by_numbers}
use Rattle.matching_state.proofs.StepSets.{addition_of, step_of}
use Rattle.matching_state.proofs.Ties.{at_pairs, exposed_of, coordinates_vector, free_rank, rank_free, inside_rank, exposed_ranks}
use Rattle.parity_lines.proofs.Border.{vectors_at-vectors, tuples_at, tuples-vectors_at, independent_lines}
use Rattle.parity_lines.specs.LineSets.{IsLineSet, IsIndependentSet}
use Rattle.parity_lines.specs.Problems.{ParityProblem, IsProblem, vectors_at}
use Rattle.parity_theory.proofs.DirectSteps.{direct_step, direct_step_only, direct_step_places}
use Rattle.parity_theory.proofs.Exchanges.{add_line, line_added}
use Rattle.parity_theory.proofs.Lines.{vectors, Misses}
use Rattle.parity_theory.proofs.Places.{independent_of_free, free_of_independent, inside_of_within}
use Rattle.parity_theory.proofs.Positions.{within_line}

module _ (S : Scalars) (F : IsField S) (p : ParityProblem) (P : IsProblem S p) (M : List ℕ) (i : IsIndependentSet S p M) where
  abbrev sp : Space (scalar_field S F) (Tuple (Element S) p.dimension)
  sp = space S F p.dimension

  abbrev line : ℕ → Tuple (Element S) p.dimension × Tuple (Element S) p.dimension
  line = tuples_at S F p

  -- a list of lines whose tuples are independent
  pub independent_by_tuples : (N : List ℕ) → IsLineSet p N → IsIndependent_of sp (vectors line N) → IsIndependentSet S p N
  independent_by_tuples N l j = record {
    line_set = l;
    independent = independent_from_tuples S F p.dimension (vectors_at p N) (vectors_at-vectors S p P N l.within) (subst (IsIndependent_of sp) (sym (tuples-vectors_at S F p N)) j);
  }

  pub tuples_independent : (N : List ℕ) → IsIndependentSet S p N → IsIndependent_of sp (vectors line N)
  tuples_independent N j = independent_lines S F p P N j.line_set.within j.independent

  -- a line of M adds nothing
  pub rank_of_member : (e : ℕ) → e < length p.lines → In e M → rank_beside S p M e ≡ 0
  rank_of_member e h m = inside_rank S F p P M e i h (inside_of_within sp line M e (tuples_independent M i) (within_line sp line e M m))

  -- M with a free line
  pub free_line_added : (N : List ℕ) (e : ℕ) → e < length p.lines → rank_beside S p M e ≡ 2 → IsStrictlyIncreasing N → IsAddition M e N → IsIndependentSet S p N × (length N ≡ suc (length M))
  free_line_added N e h r k a =
      let s = addition_of M N e i.line_set.increasing k a in
      let within : All (λ m. m < length p.lines) N = all-In (λ m. m < length p.lines) N (λ m j. elim (s.1 m j) [ inl q ↦ subst (λ t. t < length p.lines) (sym q) h | inr n ↦ In-all (λ m. m < length p.lines) M i.line_set.within m n ]) in
      let longer = s.2 in
      (independent_by_tuples N (record { increasing = k; within = within }) (add_line sp line M N e (independent_of_free sp line M e (rank_free S F p P M e i h r)) s.0 (omega arith)), s.2)

  -- and no other line
  pub added_line_free : (N : List ℕ) (e : ℕ) → IsAddition M e N → IsIndependentSet S p N → (e < length p.lines) × (rank_beside S p M e ≡ 2)
  added_line_free N e a j =
      let s = addition_of M N e i.line_set.increasing j.line_set.increasing a in
      let h : e < length p.lines = In-all (λ m. m < length p.lines) N j.line_set.within e (s.0 e (inl refl)) in
      let longer = s.2 in
      (h, free_rank S F p P M e i h (free_of_independent sp line M e (line_added sp line M N e (tuples_independent N j) s.1 (omega arith))))

  -- an exposed line is none of M
  pub exposed_is_new : (e : ℕ) → e < length p.lines → IsExposed S p M e → ¬ (Contains M e)
  exposed_is_new e h x c = let z = rank_of_member e h (In-contains M e c) in let o = x.beside in omega arith

  -- the lines that come in, where neither is free
  pub step_lines_exposed : (N : List ℕ) (m e h : ℕ) → IsTwoLineStep M m e h N → IsIndependentSet S p N → (e < length p.lines → rank_beside S p M e ≢ 2) → (h < length p.lines → rank_beside S p M h ≢ 2) →
      (e < length p.lines) × (h < length p.lines) × IsExposed S p M e × IsExposed S p M h
  step_lines_exposed N m e h w j ne nh =
      let s = step_of M N m e h i.line_set.increasing j.line_set.increasing w in
      let in_e : e < length p.lines = In-all (λ l. l < length p.lines) N j.line_set.within e s.first_new in
      let in_h : h < length p.lines = In-all (λ l. l < length p.lines) N j.line_set.within h s.second_new in
      let r = direct_step_places sp line M N m e h s (In-contains M m w.gone) (tuples_independent M i)
      (λ f. ne in_e (free_rank S F p P M e i in_e (free_of_independent sp line M e f))) (λ f. nh in_h (free_rank S F p P M h i in_h (free_of_independent sp line M h f))) (tuples_independent N j) in
      (in_e, in_h, exposed_ranks S F p P M e i in_e r.0, exposed_ranks S F p P M h i in_h r.1)

  module _ (e h : ℕ) (in_e : e < length p.lines) (in_h : h < length p.lines) (tip cs outer tip' cs' outer' : List ℕ) (t : IsTip S p M e tip cs) (o : IsOuter S p M e outer) (t' : IsTip S p M h tip' cs') (o' : IsOuter S p M h outer')
      (k : ℕ) (in_k : k < length M) (N : List ℕ) (w : IsTwoLineStep M (slice_index M k) e h N) where
    first_coordinates : IsVector S (2 * length M) cs
    first_coordinates = coordinates_vector S F p P M cs tip t.combines

    second_coordinates : IsVector S (2 * length M) cs'
    second_coordinates = coordinates_vector S F p P M cs' tip' t'.combines

    -- both outers are missed together, and there is a determinant: the new set is independent
    pub two_lines_in : IsStrictlyIncreasing N → Misses sp line M (tuple S F p.dimension outer ∷ tuple S F p.dimension outer' ∷ []) → HasDeterminantAt S cs cs' k → IsIndependentSet S p N × (length N ≡ suc (length M))
    two_lines_in l j n =
        let s = step_of M N (slice_index M k) e h i.line_set.increasing l w in
        let within : All (λ m. m < length p.lines) N = all-In (λ m. m < length p.lines) N (λ m q. elim ((w.lines m).0 (contains-In N m q)) as (λ _. m < length p.lines) [
          | inl c ↦ In-all (λ m. m < length p.lines) M i.line_set.within m (In-contains M m c.0)
          | inr r ↦ elim r [ inl z ↦ subst (λ t. t < length p.lines) (sym z) in_e | inr z ↦ subst (λ t. t < length p.lines) (sym z) in_h ]
        ]) in (
          independent_by_tuples N (record { increasing = l; within = within })
              (direct_step sp line M N (slice_index M k) e h s _ _ _ _ _ _ _ _ (exposed_of S F p P M e tip cs outer i in_e t o) (exposed_of S F p P M h tip' cs' outer' i in_h t' o')
              (at_pairs S F M cs k first_coordinates.length_is in_k) (at_pairs S F M cs' k second_coordinates.length_is in_k) j
              (determinant_by_elements S F (2 * length M) k cs cs' first_coordinates second_coordinates (omega arith) n)),
          s.longer,
        )

    -- and the other way round
    pub two_lines_only : IsIndependentSet S p N → Misses sp line M (tuple S F p.dimension outer ∷ tuple S F p.dimension outer' ∷ []) × HasDeterminantAt S cs cs' k
    two_lines_only j =
        let s = step_of M N (slice_index M k) e h i.line_set.increasing j.line_set.increasing w in
        let r = direct_step_only sp line M N (slice_index M k) e h s _ _ _ _ _ _ _ _ (exposed_of S F p P M e tip cs outer i in_e t o) (exposed_of S F p P M h tip' cs' outer' i in_h t' o')
        (at_pairs S F M cs k first_coordinates.length_is in_k) (at_pairs S F M cs' k second_coordinates.length_is in_k) (tuples_independent N j) in
        (r.0, determinant_by_numbers S F (2 * length M) k cs cs' first_coordinates second_coordinates (omega arith) r.1)
