-- What the exchanges toward a target keep, and that they come nearer.
use Rattle.std.proofs.Common.{subst, ◌≡◌, ℕ, suc, ◌<◌, List, ◌++◌, length, refl, ◌∙◌, All}
use Rattle.std.specs.List.Sorted.{IsStrictlyIncreasing}
use Rattle.vector_spaces.proofs.Members.{In-all, contains-In, In-contains}
use Rattle.linear_algebra.specs.Scalars.{Scalars, IsField}
use Rattle.linear_algebra.specs.Vectors.{AreVectors}
use Rattle.exchanges.proofs.SwappedSets.{comes_in, independent_after, missed_after}
use Rattle.exchanges.specs.Exchanges.{CanExchange, IsExchangeToward, IsReached, StillMisses, by_none, by_one_more}
use Rattle.exchanges.specs.StepsToward.{TellsStep}
use Rattle.exchanges.specs.declared.step.Stepped.{Stepped}
use Rattle.exchanges.specs.declared.step.Stepped.TheVariants.{Moved}
use Rattle.matching_state.specs.Missing.{Misses}
use Rattle.matching_state.specs.DirectSteps.{IsSwap}
use Rattle.matching_state.proofs.StepSets.{swap_of, increasing_distinct}
use Rattle.parity_lines.specs.LineSets.{IsLineSet, IsIndependentSet}
use Rattle.parity_lines.specs.Problems.{ParityProblem, IsProblem, vectors_at}
use Rattle.parity_theory.proofs.Nearness.{left_over, nearness_falls}

-- what a step tells that has moved, at an equal problem
pub exchange_told : (S : Scalars) (p q : ParityProblem) (keep : List (List ℕ)) (T M N : List ℕ) (told : Stepped) (out into : ℕ) → q ≡ p →
    told ≡ Moved out into → TellsStep S q keep T M N told → StillMisses S q keep M N → IsExchangeToward S p keep T M out into N × IsLineSet p N
exchange_told S p q keep T M N told out into e is step k = (
  subst (TellsStep S p keep T M N) is (subst (λ o. TellsStep S o keep T M N told) e step),
  (subst (λ o. StillMisses S o keep M N) e k).independent.line_set,
)

module _ (S : Scalars) (F : IsField S) (p : ParityProblem) (P : IsProblem S p) (keep : List (List ℕ)) (T : List ℕ)
    (in_T : All (λ m. m < length p.lines) T) where
  module _ (M N : List ℕ) (out into : ℕ) (i : IsIndependentSet S p M) (e : CanExchange S p (vectors_at p M ++ keep) T M out into)
      (w : IsSwap M out into N) where
    target_within : into < length p.lines
    target_within = In-all (λ m. m < length p.lines) T in_T into (In-contains T into e.in_target)

    pub kept_by_exchange : AreVectors S p.dimension keep → Misses S p M keep → IsLineSet p N → StillMisses S p keep M N
    kept_by_exchange k m l = record {
      independent = independent_after S F p P M i out into target_within e.exposed e.in_support N w l.increasing;
      as_long = (swap_of M N out into i.line_set.increasing l.increasing w).same_length;
      missed = missed_after S F p P M i out into target_within e.exposed e.in_support N w keep k m e.not_spanned l;
    }

    pub nearer_by_exchange : IsStrictlyIncreasing T → IsStrictlyIncreasing N → suc (left_over N T) ≡ left_over M T
    nearer_by_exchange t l = nearness_falls M N T out into (swap_of M N out into i.line_set.increasing l w) (increasing_distinct T t)
        (In-contains T into e.in_target)
        (λ j. comes_in S F p P M i out into target_within e.exposed e.in_support (contains-In M into j))
        (λ j. e.out_of_target (contains-In T out j))

  -- with one more
  pub one_more : AreVectors S p.dimension keep → (M N L : List ℕ) (out into : ℕ) → IsReached S p keep T M N → StillMisses S p keep M N →
      IsExchangeToward S p keep T N out into L → IsLineSet p L → IsReached S p keep T M L × StillMisses S p keep M L
  one_more k M N L out into r h e l =
      let a = kept_by_exchange N L out into h.independent e.can e.swap k h.missed l in
      (by_one_more N L out into r e l, record { independent = a.independent; as_long = a.as_long ∙ h.as_long; missed = a.missed })

  -- so it is for sets that are reached
  pub kept_by_exchanges : AreVectors S p.dimension keep → (M N : List ℕ) → IsIndependentSet S p M → Misses S p M keep →
      IsReached S p keep T M N → StillMisses S p keep M N
  kept_by_exchanges k M N i m by_none = record { independent = i; as_long = refl; missed = m }
  kept_by_exchanges k M N i m (by_one_more K L out into r e l) = (one_more k M K L out into r (kept_by_exchanges k M K i m r) e l).1
