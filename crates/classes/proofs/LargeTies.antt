-- The turn of a class that is too large: its lines are live, it stays too large on the way, and where its sets end.
use Rattle.std.proofs.Common.{◌≡◌, ◌≢◌, ℕ, ◌+◌, ◌-◌, ◌≤◌, ◌<◌, ◌⊎◌, inl, inr, List, [], length, refl, sym, ap, ◌∙◌, subst, arith, true, All}
use Rattle.std.specs.Prelude.{slice_index}
use Rattle.std.proofs.lemmas.List.Elements.{All-nil}
use Rattle.vector_spaces.proofs.Members.{In, In-all}
use Rattle.vector_spaces.proofs.Space.{Field, Space}
use Rattle.vector_spaces.proofs.Span.{InSpan as InSpan_of, span_member, span_null}
use Rattle.vector_spaces.proofs.Sublists.{sub_in}
use Rattle.vector_spaces.proofs.Tuples.{Tuple}
use Rattle.vector_spaces.proofs.Within.{Within, first_outside, through}
use Rattle.class_theory.proofs.ClassParts.{count_in-class}
use Rattle.class_theory.proofs.Classes.{class_lines, count_in, of_label, of_label_in, of_label_only}
use Rattle.class_theory.proofs.LargeClasses.{not_null_of_rank}
use Rattle.class_theory.proofs.LinesBelow.{IsListing, positions, positions_listing}
use Rattle.families.specs.Families.{SetFamily}
use Rattle.linear_algebra.specs.Ranks.{rank, rank_over}
use Rattle.linear_algebra.specs.Scalars.{Scalars, IsField}
use Rattle.linear_algebra.specs.Vectors.{IsVector}
use Rattle.linear_algebra.proofs.Coordinates.{space, tuple}
use Rattle.linear_algebra.proofs.Elements.{Element, scalar_field}
use Rattle.linear_algebra.proofs.Transfer.{independent_from_tuples}
use Rattle.matching_state.proofs.Ties.{tuple_not_null}
use Rattle.parity_lines.proofs.Border.{lines_over, tuples_at}
use Rattle.parity_lines.specs.Problems.{ParityProblem, IsProblem, vectors_at}
use Rattle.parity_theory.proofs.Lines.{vectors}
use Rattle.parity_theory.proofs.Parts.{has}
use Rattle.parity_theory.proofs.Positions.{filter_in, filter_only, members_of_vectors, sub_filter, vector_of_line}
use Rattle.classes.proofs.ClassTies.{growth_of_missed, labels_apart}
use Rattle.classes.proofs.DivisionLaws.{class_within, listing_listing}
use Rattle.classes.proofs.TurnTies.{live_nonzero, nonzero_live, of_line_in, of_line_vector, of_nonzero_live, turn_family}
use Rattle.classes.proofs.TurnFacts.{TurnFacts}
use Rattle.classes.specs.Crossings.{TellsCrossing}
use Rattle.classes.specs.Divisions.{IsLargeClass, class_list, listing}
use Rattle.classes.specs.Lasting.{IsLasting}
use Rattle.classes.specs.Missed.{AreSeparated, IsNonzeroOf, IsOfLine}
use Rattle.classes.specs.Pacing.{KeepsCounts, class_count}
use Rattle.classes.specs.Spreads.{IsIn, IsStrayVector}
use Rattle.classes.specs.Tables.{Separators, akin_at, live_at}
use Rattle.classes.specs.Turns.{AreClasses, AreOfClass, IsCrossing, IsGrowth, size_of}
use Rattle.classes.specs.declared.crossing.Crossing.{Crossing}
use Rattle.classes.specs.declared.crossing.Crossing.TheVariants.{First, Second, Both}

-- what spans a vector that isn't null has one that isn't
not_null_of_span : {K V : Type 0} {f : Field K} (s : Space f V) (X : List V) (u : V) → InSpan_of s X u → u ≢ s.null → (o : V) × In o X × (o ≢ s.null)
not_null_of_span {K} {V} {f} s X u c n = go (first_outside s X [])
  where
    go : Within s X [] ⊎ ((a : V) × In a X × ¬ (InSpan_of s [] a)) → (o : V) × In o X × (o ≢ s.null)
    go (inl w) = absurd (n (through s X [] u w c))
    go (inr r) = (r.0, r.1, λ e. r.2 (subst (λ x. InSpan_of s [] x) (sym e) (span_null f s [])))

module _ (S : Scalars) (F : IsField S) (p : ParityProblem) (labels : List ℕ) (long : length labels ≡ length p.lines) where
  listed : IsListing (length p.lines) (listing (length labels))
  listed = subst (λ m. IsListing (length p.lines) (listing m)) (sym long) (listing_listing (length p.lines))

  -- a vector of a line is in the span of its class
  pub line_in_class : (all : List ℕ) → IsListing (length p.lines) all → (i : ℕ) → i < length p.lines → IsProblem S p → (c : ℕ) → slice_index labels i ≡ c →
      (v : List ℕ) → IsOfLine p i v → IsIn S F p (class_lines (slice_index labels) all c) v
  line_in_class all l i h P c e v o =
      let H = class_lines (slice_index labels) all c in
      span_member (scalar_field S F) (space S F p.dimension) (vectors (tuples_at S F p) H) (tuple S F p.dimension v)
      (vector_of_line (tuples_at S F p) H i (tuple S F p.dimension v)
      (filter_in (of_label (slice_index labels) c) all i (l.above i h) (of_label_in (slice_index labels) c i e))
      (of_line_in S F p P i h v o))

  pub large_below : (M class : List ℕ) (c : ℕ) → IsLargeClass S p labels M c class → c < length p.lines
  large_below M class c q = omega (arith, long, q.within)

  pub label_in_class : (M class : List ℕ) (c : ℕ) → IsLargeClass S p labels M c class → IsProblem S p → (v : List ℕ) → IsOfLine p c v →
      IsIn S F p class v
  label_in_class M class c q P v o = subst (λ L. IsIn S F p L v) (sym q.is)
      (line_in_class (listing (length labels)) listed c (large_below M class c q) P c q.own v o)

  count_class : (M : List ℕ) → All (λ m. m < length p.lines) M → (c : ℕ) → count_in (has (class_list labels c)) M ≡ class_count labels c M
  count_class M w c = count_in-class (slice_index labels) (listing (length labels)) c M
      (λ l j. listed.above l (In-all (λ m. m < length p.lines) M w l j))

  -- as many lines of each class: it is as large for N
  pub large_kept : (M N class : List ℕ) (c : ℕ) → All (λ m. m < length p.lines) M → All (λ m. m < length p.lines) N → KeepsCounts labels M N →
      IsLargeClass S p labels M c class → IsLargeClass S p labels N c class
  large_kept M N class c a b k q =
      let is : count_in (has class) M ≡ count_in (has (class_list labels c)) M = ap (λ (L : List ℕ). count_in (has L) M) q.is in
      let is' : count_in (has class) N ≡ count_in (has (class_list labels c)) N = ap (λ (L : List ℕ). count_in (has L) N) q.is in
      let same : count_in (has class) N ≡ count_in (has class) M = is' ∙ count_class N b c ∙ k.counts c ∙ sym (count_class M a c) ∙ sym is in
      record { within = q.within; own = q.own; is = q.is; large = (let l = q.large in omega arith) }

  pub large_counts : (M class : List ℕ) (c : ℕ) → All (λ m. m < length p.lines) M → IsLargeClass S p labels M c class →
      class_count labels c M + class_count labels c M + 2 ≤ rank S p.dimension (vectors_at p class)
  large_counts M class c a q =
      let is : count_in (has class) M ≡ class_count labels c M = ap (λ (L : List ℕ). count_in (has L) M) q.is ∙ count_class M a c in
      let l : count_in (has class) M + count_in (has class) M + 2 ≤ rank S p.dimension (vectors_at p class) - rank S p.dimension [] = q.large in
      omega arith

  pub large_within : (M class : List ℕ) (c : ℕ) → IsLargeClass S p labels M c class → All (λ m. m < length p.lines) class
  large_within M class c q = subst (All (λ m. m < length p.lines)) (sym q.is) (class_within (length p.lines) labels long c)

module _ (S : Scalars) (F : IsField S) (f : SetFamily) (t : Separators) (T : TurnFacts S F f t)
    (labels : List ℕ) (c : AreClasses (length f.problem.lines) (akin_at t) labels) where
  abbrev sp : Space (scalar_field S F) (Tuple (Element S) f.problem.dimension)
  sp = space S F f.problem.dimension

  abbrev line : ℕ → Tuple (Element S) f.problem.dimension × Tuple (Element S) f.problem.dimension
  line = tuples_at S F f.problem

  -- a class that spans a vector that isn't null has live lines alone
  class_live : (all : List ℕ) → IsListing (length f.problem.lines) all → (j : ℕ) → j < length f.problem.lines → (u : Tuple (Element S) f.problem.dimension) →
      InSpan_of sp (vectors line (class_lines (slice_index labels) all (slice_index labels j))) u → u ≢ sp.null → live_at t j ≡ true
  class_live all l j b u w n =
      let d = slice_index labels j in
      let H = class_lines (slice_index labels) all d in
      let o = not_null_of_span sp (vectors line H) u w n in
      let x = members_of_vectors line H o.0 o.1 in
      let J = of_label (slice_index labels) d in
      let bx : x.0 < length f.problem.lines = l.below x.0 (sub_in H all (sub_filter J all) x.0 x.1) in
      let same : slice_index labels x.0 ≡ d = of_label_only (slice_index labels) d x.0 (filter_only J all x.0 x.1) in
      elim ((c.exact x.0 bx j b).related (sym (c.told.each x.0 bx) ∙ same ∙ c.told.each j b)) [
        | inl e ↦ subst (λ m. live_at t m ≡ true) e (nonzero_live S F f t T x.0 bx o.0 x.2 o.2)
        | inr e ↦ (turn_family S F f t T).table.second_live x.0 j bx b e
      ]

  -- the line of the label of a class that is too large has a vector that isn't zero
  pub large_nonzero : (M class : List ℕ) (d : ℕ) → IsLargeClass S f.problem labels M d class → d < length f.problem.lines →
      (v : List ℕ) × IsNonzeroOf S f.problem d v
  large_nonzero M class d q b =
      let none = All-nil (IsVector S f.problem.dimension) in
      let r = lines_over S F f.problem T.problem [] class none (independent_from_tuples S F f.problem.dimension [] none tt)
      (large_within S F f.problem labels c.told.long M class d q) in
      let o = not_null_of_rank sp line (vectors line class) (rank_over S f.problem.dimension [] (vectors_at f.problem class)) r
      (let l = q.large in omega arith) in
      let all = listing (length labels) in
      let in_class : InSpan_of sp (vectors line (class_lines (slice_index labels) all (slice_index labels d))) o.0 =
      subst (λ L. InSpan_of sp (vectors line L) o.0) (q.is ∙ ap (class_list labels) (sym q.own)) (span_member (scalar_field S F) sp (vectors line class) o.0 o.1) in
      live_nonzero S F f t T d b
      (class_live all (listed S F f.problem labels c.told.long) d b o.0 in_class o.2)

  -- a stray vector of a class that is too large, with a vector of the line of its label
  module _ (class M o v u : List ℕ) (d j : ℕ) (large : IsLargeClass S f.problem labels M d class) (z : IsNonzeroOf S f.problem d o)
      (q : IsStrayVector S F f.problem labels class d o M j v u) where
    b : d < length f.problem.lines
    b = large_below S F f.problem labels c.told.long M class d large

    -- the two lines aren't akin
    pub stray_separated : AreSeparated t d j
    stray_separated = record {
      first_live = of_nonzero_live S F f t T d b o z;
      second_live = class_live (positions (length f.problem.lines)) (positions_listing (length f.problem.lines)) j q.within (tuple S F f.problem.dimension u)
          q.in_class (tuple_not_null S F f.problem T.problem u q.parted.part q.not_zero);
      not_akin = labels_apart S F f t T labels c d j b q.within (λ e. q.apart (e ∙ large.own));
    }

    -- both vectors are of the class
    pub stray_of_class : AreOfClass S F f.problem labels o v
    stray_of_class = record {
      label = d;
      first_in = subst (λ L. IsIn S F f.problem L o) large.is (label_in_class S F f.problem labels c.told.long M class d large T.problem o z.of_line);
      second_in = subst (λ L. IsIn S F f.problem L v) large.is q.in_lines;
    }

    module _ (crossing : Crossing) (x : IsCrossing S f.problem (size_of f) d j o u crossing) where
      -- the set misses o and a vector of the same line's class, or u and a vector of the other line
      pub crossed_first : (L : List ℕ) → crossing ≡ First L → IsGrowth S F f.problem (size_of f) t L
      crossed_first L e =
          let r = subst (TellsCrossing S f.problem (size_of f) o x.first u x.second) e x.tells in
          let l = positions_listing (length f.problem.lines) in
          let all = positions (length f.problem.lines) in
          growth_of_missed S F f t T labels c all l d L r.0 o x.first (of_line_vector S F f.problem T.problem d b o z.of_line)
          (of_line_vector S F f.problem T.problem d b x.first x.of_first)
          (line_in_class S F f.problem labels c.told.long all l d b T.problem d large.own o z.of_line)
          (line_in_class S F f.problem labels c.told.long all l d b T.problem d large.own x.first x.of_first) r.1

      pub crossed_second : (L : List ℕ) → crossing ≡ Second L → IsGrowth S F f.problem (size_of f) t L
      crossed_second L e =
          let r = subst (TellsCrossing S f.problem (size_of f) o x.first u x.second) e x.tells in
          let l = positions_listing (length f.problem.lines) in
          let all = positions (length f.problem.lines) in
          growth_of_missed S F f t T labels c all l (slice_index labels j) L r.0 u x.second q.parted.part
          (of_line_vector S F f.problem T.problem j q.within x.second x.of_second) q.in_class
          (line_in_class S F f.problem labels c.told.long all l j q.within T.problem (slice_index labels j) refl x.second x.of_second) r.1

      pub crossed_both : (L : List ℕ) → crossing ≡ Both L → IsLasting S F f.problem labels L o v M
      crossed_both L e =
          let r = subst (TellsCrossing S f.problem (size_of f) o x.first u x.second) e x.tells in
          record { label = slice_index labels j; part = u; parted = q.parted; missed = r.1 }
