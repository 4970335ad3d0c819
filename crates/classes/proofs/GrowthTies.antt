-- A family that grows: its problem, its size and what its sets have in common, and fewer akin pairs.
use Rattle.std.proofs.Common.{◌≡◌, ◌≢◌, ℕ, suc, ◌<◌, ◌⊎◌, inl, inr, List, [], ◌∷◌, ◌++◌, append-nil, append_assoc, length, get_or, take, refl, sym, ap, ◌∙◌, subst, arith, All, true, ◌+◌, Option, None, Some}
use Rattle.std.specs.Prelude.{◌↔◌, MatchOption}
use Rattle.std.specs.List.{Contains}
use Rattle.std.specs.List.Sorted.{IsStrictlyIncreasing}
use Rattle.std.proofs.lemmas.Bool.{cases_Bool}
use Rattle.std.proofs.lemmas.List.{get_or_append_left, length_push, take-append-le, take_all}
use Rattle.std.proofs.lemmas.List.Elements.{All-nil, All-cons, All-append}
use Rattle.vector_spaces.proofs.Members.{In-all, In-append_left, In-append_right, all-In}
use Rattle.class_theory.proofs.AkinTables.{IsAkinTable}
use Rattle.class_theory.proofs.Families.{Grows, growing_falls}
use Rattle.class_theory.proofs.PairCounts.{pairs_below}
use Rattle.exchanges.proofs.LargerSets.{larger_by_line}
use Rattle.families.specs.Families.{IsFamily, SetFamily, Spans}
use Rattle.linear_algebra.specs.Scalars.{Scalars, IsField}
use Rattle.linear_algebra.proofs.Coordinates.{space}
use Rattle.matching_state.proofs.Ties.{free_rank}
use Rattle.parity_lines.proofs.Border.{tuples_at}
use Rattle.parity_lines.specs.LineSets.{IsIndependentSet}
use Rattle.parity_lines.specs.Problems.{ParityProblem, IsProblem}
use Rattle.parity_theory.proofs.Lines.{IsFree}
use Rattle.parity_theory.proofs.Places.{free_of_independent}
use Rattle.classes.proofs.TableLaws.{akin_table}
use Rattle.classes.proofs.TurnTies.{nonzero_live, not_empty, size-size_of, turn_family}
use Rattle.classes.proofs.TurnFacts.{TurnFacts}
use Rattle.classes.specs.Ends.{IsSetOf}
use Rattle.classes.specs.Partitions.{HasGrown, HasNoCommon, TellsClasses}
use Rattle.classes.specs.Tables.{IsTableOf, Separators, akin_at, live_at}
use Rattle.classes.specs.Turns.{IsGrowth, IsTurn, size_of}
use Rattle.classes.specs.declared.outcome.Classes.{Classes}

-- a set with a line that is free over it
pub larger_by_free : (S : Scalars) (F : IsField S) (p : ParityProblem) → IsProblem S p → (M : List ℕ) → IsIndependentSet S p M → (e : ℕ) (N : List ℕ) →
    e < length p.lines → IsFree (space S F p.dimension) (tuples_at S F p) M e → IsStrictlyIncreasing N →
    ((l : ℕ) → Contains N l ↔ (Contains M l ⊎ (l ≡ e))) → IsSetOf S p (suc (length M)) N
larger_by_free S F p P M i e N b h s l =
    let r = larger_by_line S F p P M i e N b (free_rank S F p P M e i b (free_of_independent (space S F p.dimension) (tuples_at S F p) M e h)) s l in
    record { independent = r.independent; size = r.longer }

abbrev pub with_set : SetFamily → List ℕ → SetFamily
with_set f M = record { problem = f.problem; sets = f.sets ++ M ∷ [] }

module _ (S : Scalars) (f : SetFamily) (k : IsFamily S f) (n : HasNoCommon S f) where
  pub grown_by_none : HasGrown S f f
  grown_by_none = record { problem = refl; added = []; sets = sym (append-nil f.sets); family = k; no_common = n }

  module _ (M : List ℕ) (i : IsSetOf S f.problem (size_of f) M) where
    more_family : IsFamily S (with_set f M)
    more_family = record {
      nonempty = λ e. not_nil f.sets e;
      independent = All-append (IsIndependentSet S f.problem) f.sets (M ∷ []) k.independent
          (All-cons (IsIndependentSet S f.problem) M [] i.independent (All-nil (IsIndependentSet S f.problem)));
      size = k.size;
      sizes = All-append (λ (set : List ℕ). length set ≡ k.size) f.sets (M ∷ []) k.sizes
          (All-cons (λ (set : List ℕ). length set ≡ k.size) M [] (i.size ∙ sym (size-size_of S f k)) (All-nil (λ (set : List ℕ). length set ≡ k.size)));
    }
      where
        not_nil : (xs : List (List ℕ)) → xs ++ M ∷ [] ≢ []
        not_nil [] e = let l = ap length e in absurd (omega arith)
        not_nil (x ∷ xs) e = let l = ap length e in absurd (omega arith)

    pub grown_by_set : HasGrown S f (with_set f M)
    grown_by_set = record {
      problem = refl;
      added = M ∷ [];
      sets = refl;
      family = more_family;
      no_common = λ v w c. n v w (all-In (Spans S f.problem v) f.sets
          (λ N j. In-all (Spans S f.problem v) (f.sets ++ M ∷ []) c N (In-append_left N f.sets (M ∷ []) j)));
    }

pub grown_trans : (S : Scalars) (f g h : SetFamily) → HasGrown S f g → HasGrown S g h → HasGrown S f h
grown_trans S f g h a b = record {
  problem = b.problem ∙ a.problem;
  added = a.added ++ b.added;
  sets = b.sets ∙ ap (λ (s : List (List ℕ)). s ++ b.added) a.sets ∙ append_assoc f.sets a.added b.added;
  family = b.family;
  no_common = b.no_common;
}

pub same_size : (S : Scalars) (f g : SetFamily) → IsFamily S f → HasGrown S f g → size_of g ≡ size_of f
same_size S f g k h = ap (λ (s : List (List ℕ)). length (get_or s 0 [])) h.sets
    ∙ ap length (get_or_append_left f.sets h.added [] 0 (not_empty f.sets k.nonempty))

-- the table with a set that separates two akin lines has fewer akin pairs
pub fewer_pairs : (S : Scalars) (F : IsField S) (f : SetFamily) (t : Separators) → TurnFacts S F f t → (after : Separators) (M : List ℕ) →
    IsGrowth S F f.problem (size_of f) t M → IsTableOf S F f.problem (f.sets ++ M ∷ []) after →
    pairs_below (length f.problem.lines) (akin_at after) < pairs_below (length f.problem.lines) (akin_at t)
fewer_pairs S F f t T after M g a =
    growing_falls (turn_family S F f t T) M (f.sets ++ M ∷ []) (akin_at after) grows (λ N j. In-append_left N f.sets (M ∷ []) j)
    (In-append_right M f.sets (M ∷ []) (inl refl)) table
  where
    grows : Grows (space S F f.problem.dimension) (tuples_at S F f.problem) (length f.problem.lines) (akin_at t) M
    grows = elim g.separates [
      | inl r ↦ absurd (a.not_free M (In-append_right M f.sets (M ∷ []) (inl refl)) r.0 r.1 r.2)
      | inr r ↦ r
    ]

    -- the same lines are live by both tables
    before : (i : ℕ) → i < length f.problem.lines → live_at after i ≡ true → live_at t i ≡ true
    before i b e = let q = (a.lives.each i b).alive e in nonzero_live S F f t T i b q.0 q.1 q.2

    still : (i : ℕ) → i < length f.problem.lines → live_at t i ≡ true → live_at after i ≡ true
    still i b e = elim (cases_Bool (live_at after i)) [
      | inl d ↦ d
      | inr d ↦ (let q = (T.turn.table.lives.each i b).alive e in absurd (q.2 ((a.lives.each i b).dead d q.0 q.1)))
    ]

    made : IsAkinTable (space S F f.problem.dimension) (tuples_at S F f.problem) (f.sets ++ M ∷ []) (length f.problem.lines) (live_at after) (akin_at after)
    made = akin_table (space S F f.problem.dimension) (tuples_at S F f.problem) (f.sets ++ M ∷ []) (length f.problem.lines) after a

    table : IsAkinTable (space S F f.problem.dimension) (tuples_at S F f.problem) (f.sets ++ M ∷ []) (length f.problem.lines) (live_at t) (akin_at after)
    table = record {
      first_live = λ i j bi bj e. before i bi (made.first_live i j bi bj e);
      second_live = λ i j bi bj e. before j bj (made.second_live i j bi bj e);
      none = made.none;
      some = λ i j bi bj u v e. made.some i j bi bj (still i bi u) (still j bj v) e;
    }

-- an answer at a value that may be there
pub match_weaker : {X : Type 0} (o : Option X) {P P' : Type 0} {Q Q' : X → Type 0} → MatchOption o P Q → (P → P') → ((x : X) → Q x → Q' x) → MatchOption o P' Q'
match_weaker None m p q = p m
match_weaker (Some x) m p q = q x m

pub taken_before : (sets : List (List ℕ)) (M : List ℕ) → take (length sets) (sets ++ M ∷ []) ≡ sets
taken_before sets M = take-append-le (length sets) sets (M ∷ []) (omega arith) ∙ take_all (length sets) sets (omega arith)

pub taken_with : (sets : List (List ℕ)) (M : List ℕ) → take (length sets + 1) (sets ++ M ∷ []) ≡ sets ++ M ∷ []
taken_with sets M = take_all (length sets + 1) (sets ++ M ∷ []) (let l = length_push sets M in omega arith)

module _ (S : Scalars) (F : IsField S) (f : SetFamily) (t : Separators) (T : TurnFacts S F f t) (M : List ℕ)
    (g : IsGrowth S F f.problem (size_of f) t M) where
  -- a turn of the family with the set
  pub turn_with : (L : IsField S) (after : Separators) → IsTableOf S L f.problem (take (length f.sets + 1) (f.sets ++ M ∷ [])) after →
      IsTurn S L (with_set f M) after
  turn_with L after a = record {
    none = (grown_by_set S f T.family T.turn.none M g.set).no_common;
    table = subst (λ sets. IsTableOf S L f.problem sets after) (taken_with f.sets M) a;
  }

  pub fewer_with : (after : Separators) → IsTableOf S F f.problem (take (length f.sets + 1) (f.sets ++ M ∷ [])) after →
      pairs_below (length f.problem.lines) (akin_at after) < pairs_below (length f.problem.lines) (akin_at t)
  fewer_with after a = fewer_pairs S F f t T after M g (subst (λ sets. IsTableOf S F f.problem sets after) (taken_with f.sets M) a)

  -- what taking the set into the table finds
  pub grown_found : (member : ℕ) → member ≡ length f.sets → (q : SetFamily) → q ≡ with_set f M → (after : Separators) (found : Option (List ℕ)) →
      MatchOption found ((L : IsField S) → IsTableOf S L q.problem (take (member + 1) q.sets) after) (IsSetOf S q.problem (suc (size_of q))) →
      MatchOption found (((L : IsField S) → IsTurn S L q after)
      × (pairs_below (length f.problem.lines) (akin_at after) < pairs_below (length f.problem.lines) (akin_at t)))
      (IsSetOf S f.problem (suc (size_of f)))
  grown_found member e q d after found m = match_weaker found told
      (λ a.
      let b : (L : IsField S) → IsTableOf S L f.problem (take (length f.sets + 1) (f.sets ++ M ∷ [])) after =
      λ L. subst (λ n. IsTableOf S L f.problem (take (n + 1) (f.sets ++ M ∷ [])) after) e (a L) in
      ((λ L. subst (λ (w : SetFamily). IsTurn S L w after) (sym d) (turn_with L after (b L))), fewer_with after (b F)))
      (λ L w. subst (λ n. IsSetOf S f.problem (suc n) L) (same_size S f (with_set f M) T.family (grown_by_set S f T.family T.turn.none M g.set)) w)
    where
      told : MatchOption found ((L : IsField S) → IsTableOf S L f.problem (take (member + 1) (f.sets ++ M ∷ [])) after)
          (IsSetOf S f.problem (suc (size_of (with_set f M))))
      told = subst (λ (w : SetFamily). MatchOption found ((L : IsField S) → IsTableOf S L w.problem (take (member + 1) w.sets) after)
          (IsSetOf S w.problem (suc (size_of w)))) d m

  pub grown_before : (member : ℕ) → member ≡ length f.sets → (q : SetFamily) → q ≡ with_set f M → (L : IsField S) → IsTurn S L f t →
      IsTableOf S L q.problem (take member q.sets) t
  grown_before member e q d L a = subst (λ (w : SetFamily). IsTableOf S L w.problem (take member w.sets) t) (sym d)
      (subst (λ n. IsTableOf S L f.problem (take n (f.sets ++ M ∷ [])) t) (sym e)
      (subst (λ sets. IsTableOf S L f.problem sets t) (sym (taken_before f.sets M)) a.table))

  pub grown_sizes : All (λ (N : List ℕ). length N ≡ length M) f.sets
  grown_sizes = all-In (λ (N : List ℕ). length N ≡ length M) f.sets (λ N j.
      In-all (λ (N : List ℕ). length N ≡ T.family.size) f.sets T.family.sizes N j ∙ size-size_of S f T.family ∙ sym g.set.size)

  pub grown_within : (member : ℕ) → member ≡ length f.sets → (q : SetFamily) → q ≡ with_set f M → member < length q.sets
  grown_within member e q d = subst (λ (w : SetFamily). member < length w.sets) (sym d) (let l = length_push f.sets M in omega arith)

-- what ends a turn of the family ends that of the family before
pub ended_before : (S : Scalars) (f g : SetFamily) → IsFamily S f → HasGrown S f g → (classes : Classes) →
    TellsClasses S g.problem (size_of g) classes → TellsClasses S f.problem (size_of f) classes
ended_before S f g k h classes w = subst (λ n. TellsClasses S f.problem n classes) (same_size S f g k h)
    (subst (λ p. TellsClasses S p (size_of g) classes) h.problem w)
