-- An exposed line in the place of a line of its support.
use Rattle.std.proofs.Common.{ℕ, ◌<◌, ◌⊎◌, inl, inr, List, [], ◌∷◌, ◌++◌, length, subst, sym, All}
use Rattle.std.specs.List.{Contains}
use Rattle.std.specs.List.Sorted.{IsStrictlyIncreasing}
use Rattle.vector_spaces.proofs.Members.{In-all, all-In, contains-In, In-contains}
use Rattle.vector_spaces.proofs.Space.{Space}
use Rattle.vector_spaces.proofs.Tuples.{Tuple}
use Rattle.vector_spaces.proofs.Within.{Within}
use Rattle.linear_algebra.specs.Scalars.{Scalars, IsField}
use Rattle.linear_algebra.specs.Vectors.{AreVectors}
use Rattle.linear_algebra.proofs.Coordinates.{tuple, space}
use Rattle.linear_algebra.proofs.Elements.{Element, scalar_field}
use Rattle.linear_algebra.proofs.Transfer.{tuples_of}
use Rattle.exchanges.proofs.SpansOfLines.{spanned_of_within}
use Rattle.exchanges.specs.Exchanges.{AreSpanned}
use Rattle.matching_state.specs.Missing.{Misses}
use Rattle.matching_state.specs.Overlaps.{InSupport}
use Rattle.matching_state.specs.LinePlaces.{IsExposed, IsOuter}
use Rattle.matching_state.specs.DirectSteps.{IsSwap}
use Rattle.matching_state.proofs.OneStep.{independent_by_tuples, exposed_is_new}
use Rattle.matching_state.proofs.StepSets.{swap_of}
use Rattle.matching_state.proofs.Ties.{pairs, one_line, exposed_of, coordinates_vector, component_in_support, misses_to, misses_from}
use Rattle.matching_state.proofs.Tips.{outer_of}
use Rattle.parity_lines.proofs.Border.{tuples_at}
use Rattle.parity_lines.specs.LineSets.{IsLineSet, IsIndependentSet}
use Rattle.parity_lines.specs.Problems.{ParityProblem, IsProblem, vectors_at}
use Rattle.parity_theory.proofs.Exchanges.{exchange_at, exchange_independent, outer_outside_keep}
use Rattle.parity_theory.proofs.Exposure.{Exposed}
use Rattle.parity_theory.proofs.Lines.{vectors}
use Rattle.parity_theory.proofs.Supports.{InSupport as InSupport_of}

module _ (S : Scalars) (F : IsField S) (p : ParityProblem) (P : IsProblem S p) (M : List ℕ) (i : IsIndependentSet S p M) (out into : ℕ)
    (h : into < length p.lines) (x : IsExposed S p M into) (k : InSupport S p M into out) where
  abbrev sp : Space (scalar_field S F) (Tuple (Element S) p.dimension)
  sp = space S F p.dimension

  abbrev line : ℕ → Tuple (Element S) p.dimension × Tuple (Element S) p.dimension
  line = tuples_at S F p

  an_outer : (outer : List ℕ) × IsOuter S p M into outer
  an_outer = outer_of S F p P M i into h x

  exposed_here : Exposed sp line M into (tuple S F p.dimension k.0) (tuple S F p.dimension an_outer.0) (pairs S F k.1)
  exposed_here = exposed_of S F p P M into k.0 k.1 an_outer.0 i h k.2 an_outer.1

  in_support_here : InSupport_of (scalar_field S F) out (pairs S F k.1) M
  in_support_here = component_in_support S F p P M k.1 out (coordinates_vector S F p P M k.1 k.0 k.2.combines) k.3

  pub comes_in : ¬ (Contains M into)
  comes_in = exposed_is_new S F p P M i into h x

  module _ (N : List ℕ) (w : IsSwap M out into N) where
    within_after : All (λ m. m < length p.lines) N
    within_after = all-In (λ m. m < length p.lines) N (λ m j. elim ((w.lines m).0 (contains-In N m j)) as (λ _. m < length p.lines) [
      | inl c ↦ In-all (λ l. l < length p.lines) M i.line_set.within m (In-contains M m c.0)
      | inr e ↦ subst (λ l. l < length p.lines) (sym e) h
    ])

    pub independent_after : IsStrictlyIncreasing N → IsIndependentSet S p N
    independent_after l = independent_by_tuples S F p P M i N (record { increasing = l; within = within_after })
        (exchange_independent sp line M N out into _ _ _ exposed_here in_support_here (swap_of M N out into i.line_set.increasing l w))

    -- what is kept is missed as before
    pub missed_after : (keep : List (List ℕ)) → AreVectors S p.dimension keep → Misses S p M keep →
        ¬ (AreSpanned S p (vectors_at p M ++ keep) (into ∷ [])) → IsLineSet p N → Misses S p N keep
    missed_after keep v m n l =
        let base = misses_to S F p P M keep i.line_set.within v m in
        let outside : ¬ (Within sp (vectors line (into ∷ [])) (vectors line M ++ tuples_of S F p.dimension keep)) =
        λ w'. n (spanned_of_within S F p P M keep i.line_set.within v (into ∷ []) (one_line S F p P into h) w') in
        misses_from S F p P N keep l.within v
        (exchange_at sp line M N out into _ _ _ (tuples_of S F p.dimension keep) exposed_here in_support_here
        (outer_outside_keep sp line M into _ _ _ (tuples_of S F p.dimension keep) exposed_here base outside)
        (swap_of M N out into i.line_set.increasing l.increasing w))
