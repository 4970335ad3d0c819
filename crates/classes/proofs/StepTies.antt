-- Exchanges and overlaps of a problem, as steps and overlaps in the space of tuples.
use Rattle.std.proofs.Common.{ℕ, ◌<◌, List, [], ◌∷◌, ◌++◌, length, subst, All}
use Rattle.std.proofs.lemmas.List.Elements.{All-cons}
use Rattle.vector_spaces.proofs.Bases.{HasRankOver}
use Rattle.vector_spaces.proofs.Members.{In-all, In-contains, contains-In}
use Rattle.vector_spaces.proofs.Space.{Space}
use Rattle.vector_spaces.proofs.Tuples.{Tuple}
use Rattle.vector_spaces.proofs.Within.{Within}
use Rattle.linear_algebra.specs.Ranks.{rank_over}
use Rattle.linear_algebra.specs.Scalars.{Scalars, IsField}
use Rattle.linear_algebra.specs.Vectors.{AreVectors}
use Rattle.linear_algebra.proofs.Coordinates.{tuple, space}
use Rattle.linear_algebra.proofs.Elements.{Element, scalar_field}
use Rattle.linear_algebra.proofs.Transfer.{tuples_of}
use Rattle.exchanges.proofs.SpansOfLines.{spanned_of_within}
use Rattle.exchanges.specs.Exchanges.{IsExchangeToward}
use Rattle.matching_state.specs.Missing.{Misses}
use Rattle.matching_state.specs.Overlaps.{IsOverlap}
use Rattle.matching_state.specs.LinePlaces.{IsOuter}
use Rattle.matching_state.proofs.StepSets.{swap_of}
use Rattle.matching_state.proofs.Ties.{pairs, one_line, exposed_of, coordinates_vector, component_in_support, misses_to}
use Rattle.matching_state.proofs.Tips.{outer_of, rank_of_outers}
use Rattle.matching_state.proofs.TipsOfTuples.{exposed_of_tuples, support_of_tuples}
use Rattle.parity_lines.proofs.Border.{vectors_at-vectors, tuples_at, tuples-vectors_at, lines_over}
use Rattle.parity_lines.specs.LineSets.{IsLineSet, IsIndependentSet}
use Rattle.parity_lines.specs.Problems.{ParityProblem, IsProblem, vectors_at}
use Rattle.parity_theory.proofs.Exchanges.{outer_outside_keep}
use Rattle.parity_theory.proofs.Exposure.{Exposed}
use Rattle.parity_theory.proofs.Lines.{vectors}
use Rattle.parity_theory.proofs.Overlaps.{Overlap}
use Rattle.parity_theory.proofs.StepsToward.{StepToward}

module _ (S : Scalars) (F : IsField S) (p : ParityProblem) (P : IsProblem S p) (M : List ℕ) (i : IsIndependentSet S p M) where
  abbrev sp : Space (scalar_field S F) (Tuple (Element S) p.dimension)
  sp = space S F p.dimension

  abbrev line : ℕ → Tuple (Element S) p.dimension × Tuple (Element S) p.dimension
  line = tuples_at S F p

  -- an overlap over tuples
  pub overlap_of_tuples : (e h : ℕ) → e < length p.lines → h < length p.lines → Overlap sp line M e h → IsOverlap S p M e h
  overlap_of_tuples e h in_e in_h r = record {
    first = exposed_of_tuples S F p P M i e in_e r.tip r.outer r.cs r.first;
    second = exposed_of_tuples S F p P M i h in_h r.tip' r.outer' r.cs' r.second;
    apart = rank_of_outers sp line M e h r.tip r.outer r.tip' r.outer' r.cs r.cs' r.first r.second _ has_rank r.outers;
    line = r.common.0;
    first_support = support_of_tuples S F p P M i e in_e r.tip r.outer r.cs r.first r.common.0 r.common.1;
    second_support = support_of_tuples S F p P M i h in_h r.tip' r.outer' r.cs' r.second r.common.0 r.common.2;
  }
    where
      has_rank : HasRankOver sp (vectors line M) (vectors line (e ∷ h ∷ [])) (rank_over S p.dimension (vectors_at p M) (vectors_at p (e ∷ h ∷ [])))
      has_rank = subst (λ ts. HasRankOver sp ts (vectors line (e ∷ h ∷ [])) (rank_over S p.dimension (vectors_at p M) (vectors_at p (e ∷ h ∷ []))))
          (tuples-vectors_at S F p M)
          (lines_over S F p P (vectors_at p M) (e ∷ h ∷ []) (vectors_at-vectors S p P M i.line_set.within) i.independent
          (All-cons (λ m. m < length p.lines) e (h ∷ []) in_e (one_line S F p P h in_h)))

  -- an exchange toward the target T
  module _ (keep : List (List ℕ)) (k : AreVectors S p.dimension keep) (m : Misses S p M keep) (T : List ℕ)
      (in_T : All (λ l. l < length p.lines) T) (out into : ℕ) (N : List ℕ) (w : IsExchangeToward S p keep T M out into N) (l : IsLineSet p N) where
    pub into_within : into < length p.lines
    into_within = In-all (λ l. l < length p.lines) T in_T into (In-contains T into w.can.in_target)

    pub an_outer : (outer : List ℕ) × IsOuter S p M into outer
    an_outer = outer_of S F p P M i into into_within w.can.exposed

    pub exposed_here : Exposed sp line M into (tuple S F p.dimension w.can.in_support.0) (tuple S F p.dimension an_outer.0)
        (pairs S F w.can.in_support.1)
    exposed_here = exposed_of S F p P M into w.can.in_support.0 w.can.in_support.1 an_outer.0 i into_within w.can.in_support.2 an_outer.1

    abbrev pub step_of_exchange : StepToward sp line M (tuples_of S F p.dimension keep) T
    step_of_exchange =
        let c = w.can.in_support in
        let outside : ¬ (Within sp (vectors line (into ∷ [])) (vectors line M ++ tuples_of S F p.dimension keep)) =
        λ w'. w.can.not_spanned (spanned_of_within S F p P M keep i.line_set.within k (into ∷ []) (one_line S F p P into into_within) w') in record {
          out = out;
          into = into;
          next = N;
          tip = tuple S F p.dimension c.0;
          outer = tuple S F p.dimension an_outer.0;
          cs = pairs S F c.1;
          exposed = exposed_here;
          in_support = component_in_support S F p P M c.1 out (coordinates_vector S F p P M c.1 c.0 c.2.combines) c.3;
          in_target = In-contains T into w.can.in_target;
          not_in_target = λ j. w.can.out_of_target (contains-In T out j);
          outer_missed = outer_outside_keep sp line M into _ _ _ (tuples_of S F p.dimension keep) exposed_here
              (misses_to S F p P M keep i.line_set.within k m) outside;
          swap = swap_of M N out into i.line_set.increasing l.increasing w.swap;
        }
