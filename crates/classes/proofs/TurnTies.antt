-- The family of a turn with its table, as the family that a turn of the theory finds: its members, live lines and separators.
use Rattle.std.proofs.Common.{◌≡◌, ◌≢◌, ℕ, ◌<◌, inl, inr, List, [], ◌∷◌, ◌++◌, length, map, get_or, refl, sym, ap, ◌∙◌, subst, arith, true}
use Rattle.std.proofs.lemmas.Bool.{cases_Bool}
use Rattle.std.proofs.lemmas.List.{length-map}
use Rattle.std.proofs.lemmas.List.Elements.{All-nil, All-cons}
use Rattle.vector_spaces.proofs.Members.{In, In-all, In-get_or}
use Rattle.vector_spaces.proofs.Independence.{IsIndependent}
use Rattle.vector_spaces.proofs.Space.{Space}
use Rattle.vector_spaces.proofs.Tuples.{Tuple}
use Rattle.class_theory.proofs.Families.{IsFamily as IsFamily_of}
use Rattle.class_theory.proofs.Separations.{separates_of_wide}
use Rattle.families.specs.Families.{IsFamily, SetFamily}
use Rattle.linear_algebra.specs.Scalars.{Scalars, IsField}
use Rattle.linear_algebra.specs.Vectors.{IsVector, AreVectors}
use Rattle.linear_algebra.proofs.Coordinates.{space, tuple}
use Rattle.linear_algebra.proofs.Elements.{Element, scalar_field}
use Rattle.linear_algebra.proofs.VectorLaws.{tuple-zero}
use Rattle.matching_state.specs.Missing.{Misses}
use Rattle.matching_state.specs.Overlaps.{InSupport}
use Rattle.matching_state.specs.LinePlaces.{IsExposed}
use Rattle.matching_state.proofs.OneStep.{tuples_independent}
use Rattle.matching_state.proofs.Ties.{component_in_support, coordinates_vector, misses_from, misses_to, pairs, ranks_exposed, tuple_not_null}
use Rattle.parity_lines.proofs.Border.{tuples_at}
use Rattle.parity_lines.proofs.LinePairs.{line_at_vectors}
use Rattle.parity_lines.specs.LineSets.{IsIndependentSet}
use Rattle.parity_lines.specs.Problems.{ParityProblem, IsProblem, line_at}
use Rattle.parity_theory.proofs.Entries.{at_in}
use Rattle.parity_theory.proofs.Exposure.{exposed_line_independent}
use Rattle.parity_theory.proofs.LineSets.{line_independent}
use Rattle.parity_theory.proofs.Lines.{IsFree, vectors}
use Rattle.parity_theory.proofs.Places.{tip_of_exposed}
use Rattle.classes.proofs.FamilyTies.{family_of}
use Rattle.classes.proofs.PairsApart.{first_missed, pair_missed, second_missed}
use Rattle.classes.proofs.TurnFacts.{TurnFacts}
use Rattle.classes.specs.Ends.{IsSetOf}
use Rattle.classes.specs.Missed.{IsMissedOf, IsNonzeroOf, IsOfLine, IsSeparator}
use Rattle.classes.specs.Tables.{Separators, akin_at, live_at}
use Rattle.classes.specs.Turns.{size_of}

pub not_empty : {X : Type 0} (xs : List X) → xs ≢ [] → 0 < length xs
not_empty [] n = absurd (n refl)
not_empty (x ∷ xs) n = omega arith

pub just : (S : Scalars) (d : ℕ) (v : List ℕ) → IsVector S d v → AreVectors S d (v ∷ [])
just S d v a = All-cons (IsVector S d) v [] a (All-nil (IsVector S d))

pub both : (S : Scalars) (d : ℕ) (v w : List ℕ) → IsVector S d v → IsVector S d w → AreVectors S d (v ∷ w ∷ [])
both S d v w a b = All-cons (IsVector S d) v (w ∷ []) a (just S d w b)

module _ (S : Scalars) (f : SetFamily) (k : IsFamily S f) where
  pub size-size_of : k.size ≡ size_of f
  size-size_of = sym (k.sizes 0 [] (not_empty f.sets k.nonempty))

  pub member_set : (m : ℕ) → m < length f.sets → IsSetOf S f.problem (size_of f) (get_or f.sets m [])
  member_set m h = record { independent = k.independent m [] h; size = k.sizes m [] h ∙ size-size_of }

-- the vectors of lines, as lists and as tuples
module _ (S : Scalars) (F : IsField S) (p : ParityProblem) (P : IsProblem S p) (i : ℕ) (h : i < length p.lines) where
  pub of_line_vector : (v : List ℕ) → IsOfLine p i v → IsVector S p.dimension v
  of_line_vector v (inl e) = subst (IsVector S p.dimension) (sym e) (line_at_vectors S p i P h).0
  of_line_vector v (inr e) = subst (IsVector S p.dimension) (sym e) (line_at_vectors S p i P h).1

  pub of_line_in : (v : List ℕ) → IsOfLine p i v → In (tuple S F p.dimension v) (vectors (tuples_at S F p) (i ∷ []))
  of_line_in v (inl e) = inl (ap (tuple S F p.dimension) e)
  of_line_in v (inr e) = inr (inl (ap (tuple S F p.dimension) e))

  pub of_line_list : (x : Tuple (Element S) p.dimension) → In x (vectors (tuples_at S F p) (i ∷ [])) →
      (v : List ℕ) × IsOfLine p i v × (tuple S F p.dimension v ≡ x)
  of_line_list x (inl e) = ((line_at p i).0, inl refl, sym e)
  of_line_list x (inr (inl e)) = ((line_at p i).1, inr refl, sym e)
  of_line_list x (inr (inr o)) = absurd o

  -- a vector that a set misses
  pub missed_list : (M : List ℕ) (x : Tuple (Element S) p.dimension) → IsIndependentSet S p M → In x (vectors (tuples_at S F p) (i ∷ [])) →
      IsIndependent (space S F p.dimension) (vectors (tuples_at S F p) M ++ x ∷ []) → (v : List ℕ) × IsMissedOf S p M i v
  missed_list M x s j m =
      let r = of_line_list x j in (
        r.0,
        record {
          of_line = r.1;
          missed = misses_from S F p P M (r.0 ∷ []) s.line_set.within (just S p.dimension r.0 (of_line_vector r.0 r.1))
              (subst (λ y. IsIndependent (space S F p.dimension) (vectors (tuples_at S F p) M ++ y ∷ [])) (sym r.2) m);
        },
      )

module _ (S : Scalars) (F : IsField S) (f : SetFamily) (t : Separators) (T : TurnFacts S F f t) where
  abbrev sp : Space (scalar_field S F) (Tuple (Element S) f.problem.dimension)
  sp = space S F f.problem.dimension

  abbrev line : ℕ → Tuple (Element S) f.problem.dimension × Tuple (Element S) f.problem.dimension
  line = tuples_at S F f.problem

  pub turn_family : IsFamily_of sp line (length f.problem.lines) (size_of f) (live_at t) (akin_at t) f.sets
  turn_family = subst (λ n. IsFamily_of sp line (length f.problem.lines) n (live_at t) (akin_at t) f.sets) (size-size_of S f T.family)
      (family_of S F f T.problem T.family T.turn.none t T.turn.table)

  -- lines with vectors that aren't zero are live
  pub nonzero_live : (i : ℕ) → i < length f.problem.lines → (x : Tuple (Element S) f.problem.dimension) → In x (vectors line (i ∷ [])) → x ≢ sp.null → live_at t i ≡ true
  nonzero_live i b x j n = elim (cases_Bool (live_at t i)) [ inl e ↦ e | inr e ↦ absurd (n (turn_family.dead i b e x j)) ]

  pub independent_live : (i : ℕ) → i < length f.problem.lines → IsIndependent sp (vectors line (i ∷ [])) → live_at t i ≡ true
  independent_live i b e = nonzero_live i b (line i).0 (inl refl) e.0

  pub live_nonzero : (i : ℕ) → i < length f.problem.lines → live_at t i ≡ true → (v : List ℕ) × IsNonzeroOf S f.problem i v
  live_nonzero i b e =
      let q = turn_family.alive i b e in
      let r = of_line_list S F f.problem T.problem i b q.0 q.1 in (
        r.0,
        record {
          of_line = r.1;
          not_zero = λ z. q.2 (sym r.2 ∙ ap (tuple S F f.problem.dimension) z ∙ tuple-zero S F f.problem.dimension);
        },
      )

  pub of_nonzero_live : (i : ℕ) → i < length f.problem.lines → (v : List ℕ) → IsNonzeroOf S f.problem i v → live_at t i ≡ true
  of_nonzero_live i b v q = nonzero_live i b (tuple S F f.problem.dimension v) (of_line_in S F f.problem T.problem i b v q.of_line)
      (tuple_not_null S F f.problem T.problem v (of_line_vector S F f.problem T.problem i b v q.of_line) q.not_zero)

  -- exposed lines and lines of independent sets are live
  pub exposed_live : (M : List ℕ) (e : ℕ) → IsIndependentSet S f.problem M → e < length f.problem.lines → IsExposed S f.problem M e → live_at t e ≡ true
  exposed_live M e i b x =
      let r = tip_of_exposed sp line M e (ranks_exposed S F f.problem T.problem M e i b x) in
      independent_live e b (exposed_line_independent sp line M e r.0 r.1 r.2 r.3)

  pub support_in : (M : List ℕ) (e g : ℕ) → InSupport S f.problem M e g → In g M
  support_in M e g r =
      let s = component_in_support S F f.problem T.problem M r.1 g (coordinates_vector S F f.problem T.problem M r.1 r.0 r.2.combines) r.3 in
      at_in g s.0 M (pairs S F r.1) s.1

  pub member_below : (M : List ℕ) (g : ℕ) → IsIndependentSet S f.problem M → In g M → g < length f.problem.lines
  member_below M g i j = In-all (λ m. m < length f.problem.lines) M i.line_set.within g j

  pub member_live : (M : List ℕ) (g : ℕ) → IsIndependentSet S f.problem M → In g M → live_at t g ≡ true
  member_live M g i j = independent_live g (member_below M g i j)
      (line_independent sp line M g (tuples_independent S F f.problem T.problem M i M i) j)

  -- the set at m separates i and j: it misses a vector of each, and any two that it misses together
  module _ (i j m : ℕ) (bi : i < length f.problem.lines) (bj : j < length f.problem.lines) (q : IsSeparator S F f i j m) where
    abbrev N : List ℕ
    N = get_or f.sets m []

    member : IsIndependentSet S f.problem N
    member = (member_set S f T.family m q.within).independent

    not_free_at : (l : ℕ) → l < length f.problem.lines → ¬ (IsFree sp line N l)
    not_free_at l b = turn_family.not_free N (In-get_or f.sets m [] q.within) l b

    pub separator_first : (v : List ℕ) × IsMissedOf S f.problem N i v
    separator_first =
        let r = separates_of_wide sp line N i j (not_free_at i bi) (not_free_at j bj) q.wide in
        missed_list S F f.problem T.problem i bi N r.0 member r.2 (first_missed sp line N r.0 r.1 r.4)

    pub separator_second : (v : List ℕ) × IsMissedOf S f.problem N j v
    separator_second =
        let r = separates_of_wide sp line N i j (not_free_at i bi) (not_free_at j bj) q.wide in
        missed_list S F f.problem T.problem j bj N r.1 member r.3 (second_missed sp line N r.0 r.1 r.4)

    pub separator_both : (a b : List ℕ) → IsMissedOf S f.problem N i a → IsMissedOf S f.problem N j b → Misses S f.problem N (a ∷ b ∷ [])
    separator_both a b x y =
        let va = of_line_vector S F f.problem T.problem i bi a x.of_line in
        let vb = of_line_vector S F f.problem T.problem j bj b y.of_line in
        let w = member.line_set.within in
        misses_from S F f.problem T.problem N (a ∷ b ∷ []) w
        (both S f.problem.dimension a b va vb)
        (pair_missed sp line N i j (tuple S F f.problem.dimension a) (tuple S F f.problem.dimension b) (not_free_at i bi) (not_free_at j bj) q.wide
        (of_line_in S F f.problem T.problem i bi a x.of_line)
        (misses_to S F f.problem T.problem N (a ∷ []) w (just S f.problem.dimension a va) x.missed)
        (of_line_in S F f.problem T.problem j bj b y.of_line)
        (misses_to S F f.problem T.problem N (b ∷ []) w (just S f.problem.dimension b vb) y.missed))

-- how long the entries of a line's vector are, where they are told as numbers
pub line_long : {X : Type 0} (S : Scalars) (F : IsField S) (p : ParityProblem) → IsProblem S p → (i : ℕ) → i < length p.lines → (n : X → ℕ)
    (xs : List X) → IsOfLine p i (map n xs) → length xs ≡ p.dimension
line_long S F p P i h n xs o = sym (length-map xs n) ∙ (of_line_vector S F p P i h (map n xs) o).length_is
