-- A family of sets of lines of a problem, with no common vector and a table, as the family that a turn of the theory finds.
use Rattle.std.proofs.Common.{◌≡◌, ◌≢◌, ℕ, ◌<◌, ◌⊎◌, inl, inr, List, [], ◌∷◌, length, refl, sym, ap, ◌∙◌, subst}
use Rattle.vector_spaces.proofs.Independence.{append_outside}
use Rattle.vector_spaces.proofs.Members.{In, In-all, all-In, each_or}
use Rattle.vector_spaces.proofs.Space.{Space}
use Rattle.vector_spaces.proofs.Span.{InSpan as InSpan_of}
use Rattle.vector_spaces.proofs.Tuples.{Tuple}
use Rattle.vector_spaces.proofs.Within.{Within, first_outside}
use Rattle.class_theory.proofs.Families.{IsFamily as IsFamily_of}
use Rattle.families.specs.Families.{IsFamily, SetFamily, Spans}
use Rattle.linear_algebra.specs.Scalars.{Scalars, IsField}
use Rattle.linear_algebra.proofs.Coordinates.{list, list-vector, space, tuple, tuple-list}
use Rattle.linear_algebra.proofs.Elements.{Element, scalar_field}
use Rattle.linear_algebra.proofs.VectorLaws.{tuple-zero}
use Rattle.matching_state.proofs.Ties.{span_from}
use Rattle.parity_lines.proofs.Border.{independent_lines, tuples_at}
use Rattle.parity_lines.specs.LineSets.{IsIndependentSet}
use Rattle.parity_lines.specs.Problems.{IsProblem}
use Rattle.parity_theory.proofs.Lines.{Misses, vectors}
use Rattle.classes.proofs.TableLaws.{akin_table}
use Rattle.classes.specs.Partitions.{HasNoCommon}
use Rattle.classes.specs.Tables.{IsTableOf, Separators, akin_at, live_at}

module _ (S : Scalars) (F : IsField S) (f : SetFamily) (P : IsProblem S f.problem) (k : IsFamily S f) (none : HasNoCommon S f) where
  abbrev sp : Space (scalar_field S F) (Tuple (Element S) f.problem.dimension)
  sp = space S F f.problem.dimension

  abbrev line : ℕ → Tuple (Element S) f.problem.dimension × Tuple (Element S) f.problem.dimension
  line = tuples_at S F f.problem

  set_in : (N : List ℕ) → In N f.sets → IsIndependentSet S f.problem N
  set_in N j = In-all (IsIndependentSet S f.problem) f.sets k.independent N j

  -- each vector that is not null is missed by a set
  some_missing : (v : Tuple (Element S) f.problem.dimension) → v ≢ sp.null → (N : List ℕ) × In N f.sets × Misses sp line N (v ∷ [])
  some_missing v m = go (each_or f.sets each)
    where
      each : (N : List ℕ) → In N f.sets → InSpan_of sp (vectors line N) v ⊎ ((N : List ℕ) × In N f.sets × Misses sp line N (v ∷ []))
      each N j = pick (first_outside sp (v ∷ []) (vectors line N))
        where
          pick : Within sp (v ∷ []) (vectors line N) ⊎
              ((x : Tuple (Element S) f.problem.dimension) × In x (v ∷ []) × ¬ (InSpan_of sp (vectors line N) x)) →
              InSpan_of sp (vectors line N) v ⊎ ((N : List ℕ) × In N f.sets × Misses sp line N (v ∷ []))
          pick (inl w) = inl (w.each v (inl refl))
          pick (inr (x, inl e, n)) = inr (
            N,
            j,
            append_outside sp (vectors line N) v
                (independent_lines S F f.problem P N (set_in N j).line_set.within (set_in N j).independent)
                (subst (λ t. ¬ (InSpan_of sp (vectors line N) t)) e n),
          )
          pick (inr (x, inr o, n)) = absurd o

      go : ((N : List ℕ) → In N f.sets → InSpan_of sp (vectors line N) v) ⊎ ((N : List ℕ) × In N f.sets × Misses sp line N (v ∷ [])) →
          (N : List ℕ) × In N f.sets × Misses sp line N (v ∷ [])
      go (inr r) = r
      go (inl h) =
          let d = f.problem.dimension in
          let x : List ℕ = list S d v in
          let common = all-In (Spans S f.problem x) f.sets (λ N j. span_from S F f.problem P N x (set_in N j).line_set.within (list-vector S d v)
          (subst (λ t. InSpan_of sp (vectors line N) t) (sym (tuple-list S F d v)) (h N j))) in
          absurd (m (sym (tuple-list S F d v) ∙ ap (tuple S F d) (none x (list-vector S d v) common) ∙ tuple-zero S F d))

  pub family_of : (t : Separators) → IsTableOf S F f.problem f.sets t →
      IsFamily_of sp line (length f.problem.lines) k.size (live_at t) (akin_at t) f.sets
  family_of t h = record {
    independent = λ N j. independent_lines S F f.problem P N (set_in N j).line_set.within (set_in N j).independent;
    sets = λ N j. record {
      size = In-all (λ set. length set ≡ k.size) f.sets k.sizes N j;
      below = λ i q. In-all (λ m. m < length f.problem.lines) N (set_in N j).line_set.within i q;
    };
    missing = some_missing;
    not_free = h.not_free;
    table = akin_table sp line f.sets (length f.problem.lines) t h;
    alive = λ i b e. (h.lives.each i b).alive e;
    dead = λ i b e. (h.lives.each i b).dead e;
  }
