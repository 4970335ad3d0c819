-- Akin lines form classes that a set fits, or something leads on.
use Rattle.std.proofs.Common.{◌≡◌, ℕ, ◌+◌, ◌/◌, ◌≤◌, ◌<◌, ◌⊎◌, inl, inr, List, [], length, arith, All}
use Rattle.std.proofs.Math.Decide.{dec_le}
use Rattle.std.proofs.lemmas.List.Elements.{All-nil}
use Rattle.vector_spaces.proofs.Bases.{HasRankOver}
use Rattle.vector_spaces.proofs.Independence.{sublist_independent}
use Rattle.vector_spaces.proofs.Members.{In, In-all, all-In}
use Rattle.vector_spaces.proofs.Space.{Space}
use Rattle.vector_spaces.proofs.Sublists.{sub_in}
use Rattle.vector_spaces.proofs.Tuples.{Tuple}
use Rattle.class_theory.proofs.AkinTables.{akin_symmetric}
use Rattle.class_theory.proofs.ClassParts.{count_in-class}
use Rattle.class_theory.proofs.Classes.{count_in, of_label}
use Rattle.class_theory.proofs.ExactClasses.{ExactFamily}
use Rattle.class_theory.proofs.Labels.{AreExact, Triple, all_or, label, labels_or_triple}
use Rattle.class_theory.proofs.LargeClasses.{large_turn}
use Rattle.class_theory.proofs.TripleTurns.{triple_turn}
use Rattle.families.specs.Families.{SetFamily}
use Rattle.linear_algebra.specs.Ranks.{rank_over}
use Rattle.linear_algebra.specs.Scalars.{Scalars, IsField}
use Rattle.linear_algebra.specs.Vectors.{IsVector}
use Rattle.linear_algebra.proofs.Coordinates.{space}
use Rattle.linear_algebra.proofs.Elements.{Element, scalar_field}
use Rattle.linear_algebra.proofs.Transfer.{independent_from_tuples}
use Rattle.matching_state.proofs.OneStep.{tuples_independent}
use Rattle.parity_lines.proofs.Border.{lines_over, tuples_at}
use Rattle.parity_lines.specs.Problems.{vectors_at}
use Rattle.parity_theory.proofs.Duality.{part_count}
use Rattle.parity_theory.proofs.Lines.{vectors}
use Rattle.parity_theory.proofs.Parts.{has, has_in}
use Rattle.parity_theory.proofs.Positions.{filter_only, sub_filter, sub_vectors}
use Rattle.std.specs.List.{filter}
use Rattle.classes.proofs.DivisionLaws.{listing_listing}
use Rattle.classes.proofs.TurnTies.{turn_family}
use Rattle.classes.proofs.TurnFacts.{TurnFacts}
use Rattle.classes.specs.ClassLaws.{FitsClasses, LeadsOn, class_at}
use Rattle.classes.specs.Divisions.{listing}
use Rattle.classes.specs.Ends.{IsSetOf}
use Rattle.classes.specs.Tables.{Separators, akin_at, live_at}
use Rattle.classes.specs.Turns.{size_of}

half : (r c : ℕ) → c + c ≤ r → ¬ (c + c + 2 ≤ r) → r / 2 ≡ c
half r c h k = omega (arith, h, k)

module _ (S : Scalars) (F : IsField S) (f : SetFamily) (t : Separators) (T : TurnFacts S F f t) where
  abbrev sp : Space (scalar_field S F) (Tuple (Element S) f.problem.dimension)
  sp = space S F f.problem.dimension

  abbrev line : ℕ → Tuple (Element S) f.problem.dimension × Tuple (Element S) f.problem.dimension
  line = tuples_at S F f.problem

  pub classes_or_on : AreExact (length f.problem.lines) (akin_at t) ⊎ LeadsOn S F f t
  classes_or_on = go (labels_or_triple (length f.problem.lines) (akin_at t)
      (akin_symmetric sp line f.sets (length f.problem.lines) (live_at t) (akin_at t) (turn_family S F f t T).table))
    where
      go : AreExact (length f.problem.lines) (akin_at t) ⊎ Triple (length f.problem.lines) (akin_at t) →
          AreExact (length f.problem.lines) (akin_at t) ⊎ LeadsOn S F f t
      go (inl e) = inl e
      go (inr v) = inr (triple_turn (turn_family S F f t T) v)

  module _ (exact : AreExact (length f.problem.lines) (akin_at t)) (M : List ℕ) (q : IsSetOf S f.problem (size_of f) M) where
    abbrev exact_family : ExactFamily sp line (length f.problem.lines) (size_of f)
    exact_family = record {
      live = live_at t;
      akin = akin_at t;
      family = f.sets;
      is_family = turn_family S F f t T;
      exact = exact;
      all = listing (length f.problem.lines);
      listing = listing_listing (length f.problem.lines);
    }

    in_lines : (l : ℕ) → In l M → In l (listing (length f.problem.lines))
    in_lines l j = (listing_listing (length f.problem.lines)).above l (In-all (λ m. m < length f.problem.lines) M q.independent.line_set.within l j)

    pub fits_or_on : FitsClasses S f.problem (akin_at t) M ⊎ LeadsOn S F f t
    fits_or_on = all_or (length f.problem.lines) each
      where
        each : (c : ℕ) → c < length f.problem.lines →
            (rank_over S f.problem.dimension [] (vectors_at f.problem (class_at (length f.problem.lines) (akin_at t) c)) / 2
            ≡ count_in (has (class_at (length f.problem.lines) (akin_at t) c)) M) ⊎ LeadsOn S F f t
        each c b = go (dec_le (count_in (has H) M + count_in (has H) M + 2) r)
          where
            H : List ℕ
            H = class_at (length f.problem.lines) (akin_at t) c

            r : ℕ
            r = rank_over S f.problem.dimension [] (vectors_at f.problem H)

            below : All (λ m. m < length f.problem.lines) H
            below = all-In (λ m. m < length f.problem.lines) H (λ m j. (listing_listing (length f.problem.lines)).below m
                (sub_in H (listing (length f.problem.lines)) (sub_filter (of_label (label (akin_at t)) c) (listing (length f.problem.lines))) m j))

            has_rank : HasRankOver sp [] (vectors line H) r
            has_rank = lines_over S F f.problem T.problem [] H (All-nil (IsVector S f.problem.dimension))
                (independent_from_tuples S F f.problem.dimension [] (All-nil (IsVector S f.problem.dimension)) tt) below

            go : Dec (count_in (has H) M + count_in (has H) M + 2 ≤ r) → (r / 2 ≡ count_in (has H) M) ⊎ LeadsOn S F f t
            go (yes l) =
                let e = count_in-class (label (akin_at t)) (listing (length f.problem.lines)) c M in_lines in
                inr (large_turn exact_family M c r
                (record { size = q.size; below = λ i j. In-all (λ m. m < length f.problem.lines) M q.independent.line_set.within i j })
                (tuples_independent S F f.problem T.problem M q.independent M q.independent) has_rank (omega arith))
            go (no n) = inl (half r (count_in (has H) M)
                (part_count sp line [] (filter (has H) M) H r
                (sublist_independent sp (vectors line (filter (has H) M)) (vectors line M)
                (tuples_independent S F f.problem T.problem M q.independent M q.independent) (sub_vectors line (filter (has H) M) M (sub_filter (has H) M)))
                (λ l j. has_in H l (filter_only (has H) M l j)) has_rank) n)
