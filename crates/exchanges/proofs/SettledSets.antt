-- Sets that have settled toward a target, in the space of tuples, and what they span.
use Rattle.std.proofs.Common.{ℕ, ◌<◌, ◌⊎◌, inl, inr, List, [], ◌∷◌, ◌++◌, length, All}
use Rattle.vector_spaces.proofs.Independence.{IsIndependent as IsIndependent_of}
use Rattle.vector_spaces.proofs.Members.{In, In-all, contains-In, In-contains, decide_in}
use Rattle.vector_spaces.proofs.Space.{Space}
use Rattle.vector_spaces.proofs.Tuples.{Tuple}
use Rattle.vector_spaces.proofs.Within.{Within, decide_within}
use Rattle.linear_algebra.specs.Scalars.{Scalars, IsField}
use Rattle.linear_algebra.specs.Vectors.{AreVectors}
use Rattle.linear_algebra.proofs.Coordinates.{space}
use Rattle.linear_algebra.proofs.Elements.{Element, scalar_field}
use Rattle.linear_algebra.proofs.Transfer.{tuples_of}
use Rattle.exchanges.proofs.SpansOfLines.{within_of_spanned, spanned_of_within}
use Rattle.exchanges.specs.Exchanges.{AreSpanned, IsSettled}
use Rattle.matching_state.specs.Missing.{Misses}
use Rattle.matching_state.proofs.OneStep.{tuples_independent}
use Rattle.matching_state.proofs.Ties.{one_line, free_rank, misses_to}
use Rattle.matching_state.proofs.TipsOfTuples.{exposed_of_tuples, support_of_tuples}
use Rattle.parity_lines.proofs.Border.{tuples_at}
use Rattle.parity_lines.specs.LineSets.{IsIndependentSet}
use Rattle.parity_lines.specs.Problems.{ParityProblem, IsProblem, vectors_at}
use Rattle.parity_theory.proofs.Exposure.{Exposed}
use Rattle.parity_theory.proofs.LineSets.{line_independent}
use Rattle.parity_theory.proofs.Lines.{vectors, Misses as Misses_of}
use Rattle.parity_theory.proofs.Places.{free_of_independent}
use Rattle.parity_theory.proofs.Settling.{IsSettled as IsSettled_of, settled_by_places, settled_at_independent_target}
use Rattle.parity_theory.proofs.Supports.{SupportIn, InSupport, support_in_or_not}

module _ (S : Scalars) (F : IsField S) (p : ParityProblem) (P : IsProblem S p) (M : List ℕ) (i : IsIndependentSet S p M)
    (keep : List (List ℕ)) (k : AreVectors S p.dimension keep) (m : Misses S p M keep)
    (T : List ℕ) (in_T : All (λ m. m < length p.lines) T) (settled : IsSettled S p keep T M) where
  abbrev sp : Space (scalar_field S F) (Tuple (Element S) p.dimension)
  sp = space S F p.dimension

  abbrev line : ℕ → Tuple (Element S) p.dimension × Tuple (Element S) p.dimension
  line = tuples_at S F p

  abbrev kept : List (Tuple (Element S) p.dimension)
  kept = tuples_of S F p.dimension keep

  missed : Misses_of sp line M kept
  missed = misses_to S F p P M keep i.line_set.within k m

  within : (l : ℕ) → In l T → l < length p.lines
  within l j = In-all (λ n. n < length p.lines) T in_T l j

  -- an exposed line of the target is spanned, or has its support in the target
  closed : (l : ℕ) → In l T → (tip outer : Tuple (Element S) p.dimension) (cs : List (Element S × Element S)) →
      Exposed sp line M l tip outer cs → Within sp (vectors line (l ∷ [])) (vectors line M ++ kept) ⊎
      SupportIn (scalar_field S F) (λ n. In n T) cs M
  closed l j tip outer cs x = go (decide_within sp (vectors line (l ∷ [])) (vectors line M ++ kept))
      (support_in_or_not (scalar_field S F) (λ n. In n T) (λ n. decide_in n T) cs M)
    where
      go : Dec (Within sp (vectors line (l ∷ [])) (vectors line M ++ kept)) →
          SupportIn (scalar_field S F) (λ n. In n T) cs M ⊎ ((n : ℕ) × InSupport (scalar_field S F) n cs M × ¬ (In n T)) →
          Within sp (vectors line (l ∷ [])) (vectors line M ++ kept) ⊎ SupportIn (scalar_field S F) (λ n. In n T) cs M
      go (yes w) s = inl w
      go (no n) (inl h) = inr h
      go (no n) (inr r) = absurd (settled.no_exchange r.0 l (record {
        in_target = contains-In T l j;
        out_of_target = λ c. r.2 (In-contains T r.0 c);
        exposed = exposed_of_tuples S F p P M i l (within l j) tip outer cs x;
        in_support = support_of_tuples S F p P M i l (within l j) tip outer cs x r.0 r.1;
        not_spanned = λ s. n (within_of_spanned S F p P M keep i.line_set.within k (l ∷ []) (one_line S F p P l (within l j)) s);
      }))

  -- so the set has settled over tuples, where the two vectors of each line of the target are independent
  pub settled_tuples : ((l : ℕ) → In l T → IsIndependent_of sp (vectors line (l ∷ []))) → IsSettled_of sp line M kept T
  settled_tuples own = settled_by_places sp line M kept T missed own
      (λ l j f. settled.not_free l (contains-In T l j) (free_rank S F p P M l i (within l j) (free_of_independent sp line M l f))) closed

  module _ (t : IsIndependentSet S p T) where
    target : IsIndependent_of sp (vectors line T)
    target = tuples_independent S F p P T t T t

    pub settled_at_set : IsSettled_of sp line M kept T
    settled_at_set = settled_tuples (λ l j. line_independent sp line T l target j)

    -- and spans an independent target, together with what is kept
    pub target_spanned : AreSpanned S p (vectors_at p M ++ keep) T
    target_spanned = spanned_of_within S F p P M keep i.line_set.within k T in_T
        (settled_at_independent_target sp line M kept T target settled_at_set)
