-- The classes of a turn: their lines by the labels, supports that leave them, and sets that separate two lines of one.
use Rattle.std.proofs.Common.{◌≡◌, ◌≢◌, ℕ, ◌≤◌, ◌<◌, ◌⊎◌, inl, inr, List, [], ◌∷◌, length, refl, sym, ap, ◌∙◌, subst, arith, Bool, true, false}
use Rattle.std.specs.List.{filter}
use Rattle.std.specs.Prelude.{slice_index}
use Rattle.std.proofs.lemmas.Bool.{cases_Bool}
use Rattle.vector_spaces.proofs.Members.{In}
use Rattle.vector_spaces.proofs.Space.{Space}
use Rattle.vector_spaces.proofs.Span.{InSpan as InSpan_of}
use Rattle.vector_spaces.proofs.Tuples.{Tuple}
use Rattle.class_theory.proofs.Classes.{class_lines, of_label}
use Rattle.class_theory.proofs.ExactClasses.{ExactFamily, class_akin, class_below, lines_of}
use Rattle.class_theory.proofs.Families.{progress_grows}
use Rattle.class_theory.proofs.Labels.{label, label-label, label_at_most}
use Rattle.class_theory.proofs.LinesBelow.{IsListing}
use Rattle.class_theory.proofs.Separations.{Progress, progress, spread}
use Rattle.families.specs.Families.{SetFamily}
use Rattle.linear_algebra.specs.Scalars.{Scalars, IsField}
use Rattle.linear_algebra.specs.Vectors.{IsVector}
use Rattle.linear_algebra.proofs.Coordinates.{space, tuple}
use Rattle.linear_algebra.proofs.Elements.{Element, scalar_field}
use Rattle.matching_state.specs.Missing.{Misses}
use Rattle.matching_state.proofs.Ties.{misses_to}
use Rattle.parity_lines.proofs.Border.{tuples_at}
use Rattle.parity_lines.specs.LineSets.{IsIndependentSet}
use Rattle.parity_theory.proofs.Lines.{vectors}
use Rattle.parity_theory.proofs.Positions.{filter-no, filter-yes}
use Rattle.classes.proofs.DivisionLaws.{listing_listing}
use Rattle.classes.proofs.TurnTies.{both, exposed_live, member_below, member_live, support_in, turn_family}
use Rattle.classes.proofs.TurnFacts.{TurnFacts}
use Rattle.classes.specs.Divisions.{AreLeast, class_list, listing}
use Rattle.classes.specs.Ends.{IsSetOf}
use Rattle.classes.specs.Missed.{AreSeparated}
use Rattle.classes.specs.Spreads.{IsIn, IsWideOn}
use Rattle.classes.specs.Supports.{IsStray}
use Rattle.classes.specs.Tables.{Separators, akin_at, live_at}
use Rattle.classes.specs.Turns.{AreClasses, AreOfClass, IsGrowth, IsSplit, size_of}

-- tests that agree on a list leave the same of it
pub filter_same : (J K : ℕ → Bool) (xs : List ℕ) → ((x : ℕ) → In x xs → J x ≡ K x) → filter J xs ≡ filter K xs
filter_same J K [] h = refl
filter_same J K (x ∷ xs) h = go (cases_Bool (K x)) (filter_same J K xs (λ y i. h y (inr i)))
  where
    go : (K x ≡ true) ⊎ (K x ≡ false) → filter J xs ≡ filter K xs → filter J (x ∷ xs) ≡ filter K (x ∷ xs)
    go (inl e) rest = filter-yes J x xs (h x (inl refl) ∙ e) ∙ ap (λ ys. x ∷ ys) rest ∙ sym (filter-yes K x xs e)
    go (inr e) rest = filter-no J x xs (h x (inl refl) ∙ e) ∙ rest ∙ sym (filter-no K x xs e)

-- an exposed line with one of its support that isn't akin to it: both are live
module _ (S : Scalars) (F : IsField S) (f : SetFamily) (t : Separators) (T : TurnFacts S F f t)
    (M : List ℕ) (i : IsIndependentSet S f.problem M) (e g : ℕ) (q : IsSplit S f.problem t M e g) where
  pub split_within : g < length f.problem.lines
  split_within = member_below S F f t T M g i (support_in S F f t T M e g q.in_support)

  pub split_separated : AreSeparated t e g
  split_separated = record {
    first_live = exposed_live S F f t T M e i q.within q.exposed;
    second_live = member_live S F f t T M g i (support_in S F f t T M e g q.in_support);
    not_akin = q.not_akin;
  }

module _ (S : Scalars) (F : IsField S) (f : SetFamily) (t : Separators) (T : TurnFacts S F f t)
    (labels : List ℕ) (c : AreClasses (length f.problem.lines) (akin_at t) labels) where
  abbrev sp : Space (scalar_field S F) (Tuple (Element S) f.problem.dimension)
  sp = space S F f.problem.dimension

  abbrev line : ℕ → Tuple (Element S) f.problem.dimension × Tuple (Element S) f.problem.dimension
  line = tuples_at S F f.problem

  -- by any list of the lines
  abbrev exact_by : (all : List ℕ) → IsListing (length f.problem.lines) all → ExactFamily sp line (length f.problem.lines) (size_of f)
  exact_by all l = record {
    live = live_at t;
    akin = akin_at t;
    family = f.sets;
    is_family = turn_family S F f t T;
    exact = c.exact;
    all = all;
    listing = l;
  }

  -- lines with different labels aren't akin
  pub labels_apart : (i j : ℕ) → i < length f.problem.lines → j < length f.problem.lines → slice_index labels j ≢ slice_index labels i → akin_at t i j ≡ false
  labels_apart i j a b m = elim (cases_Bool (akin_at t i j)) [
    | inl e ↦ absurd (m (c.told.each j b ∙ sym ((c.exact i a j b).labelled e) ∙ sym (c.told.each i a)))
    | inr e ↦ e
  ]

  pub stray_split : (M : List ℕ) → IsIndependentSet S f.problem M → (e g : ℕ) → IsStray S f.problem labels M e g → IsSplit S f.problem t M e g
  stray_split M i e g s = record {
    within = s.within;
    exposed = s.exposed;
    in_support = s.in_support;
    not_akin = labels_apart e g s.within
        (member_below S F f t T M g i (support_in S F f t T M e g s.in_support)) s.apart;
  }

  -- the lines with a label, from any list of the lines
  pub lines_same : (all : List ℕ) (l : IsListing (length f.problem.lines) all) (d : ℕ) →
      class_lines (slice_index labels) all d ≡ lines_of (exact_by all l) d
  lines_same all l d = filter_same (of_label (slice_index labels) d) (of_label (label (akin_at t)) d) all
      (λ x j. ap (λ m. of_label (λ z. m) d x) (c.told.each x (l.below x j)))

  module _ (all : List ℕ) (l : IsListing (length f.problem.lines) all) (d : ℕ) (M : List ℕ) (q : IsSetOf S f.problem (size_of f) M) where
    -- progress on a class
    growth : Progress sp line M (lines_of (exact_by all l) d) → IsGrowth S F f.problem (size_of f) t M
    growth p = record {
      set = q;
      separates = progress_grows (turn_family S F f t T) M (lines_of (exact_by all l) d) (class_below (exact_by all l) d)
          (class_akin (exact_by all l) d) p;
    }

    -- a set that misses two vectors of the span of a class together
    pub growth_of_missed : (o v : List ℕ) → IsVector S f.problem.dimension o → IsVector S f.problem.dimension v →
        IsIn S F f.problem (class_lines (slice_index labels) all d) o → IsIn S F f.problem (class_lines (slice_index labels) all d) v →
        Misses S f.problem M (o ∷ v ∷ []) → IsGrowth S F f.problem (size_of f) t M
    growth_of_missed o v a b x y m =
        let in_lines : (w : List ℕ) → IsIn S F f.problem (class_lines (slice_index labels) all d) w → InSpan_of sp (vectors line (lines_of (exact_by all l) d))
        (tuple S F f.problem.dimension w) = λ w z. subst (λ L. InSpan_of sp (vectors line L) (tuple S F f.problem.dimension w)) (lines_same all l d) z in
        growth (progress sp line M (lines_of (exact_by all l) d) (tuple S F f.problem.dimension o) (tuple S F f.problem.dimension v)
        (in_lines o x) (in_lines v y)
        (misses_to S F f.problem T.problem M (o ∷ v ∷ []) q.independent.line_set.within (both S f.problem.dimension o v a b) m))

    pub growth_of_wide : IsWideOn S F f.problem (class_lines (slice_index labels) all d) M → IsGrowth S F f.problem (size_of f) t M
    growth_of_wide w = growth (spread sp line M (lines_of (exact_by all l) d)
        (subst (λ L. IsWideOn S F f.problem L M) (lines_same all l d) w))

  listing_labels : IsListing (length f.problem.lines) (listing (length labels))
  listing_labels = subst (λ m. IsListing (length f.problem.lines) (listing m)) (sym c.told.long) (listing_listing (length f.problem.lines))

  pub growth_of_class : (M : List ℕ) → IsSetOf S f.problem (size_of f) M → (o v : List ℕ) → IsVector S f.problem.dimension o →
      IsVector S f.problem.dimension v → AreOfClass S F f.problem labels o v → Misses S f.problem M (o ∷ v ∷ []) → IsGrowth S F f.problem (size_of f) t M
  growth_of_class M q o v a b w m = growth_of_missed (listing (length labels)) listing_labels w.label M q o v a b w.first_in w.second_in m

  pub growth_of_spread : (d : ℕ) (M : List ℕ) → IsSetOf S f.problem (size_of f) M → IsWideOn S F f.problem (class_list labels d) M →
      IsGrowth S F f.problem (size_of f) t M
  growth_of_spread d M q w = growth_of_wide (listing (length labels)) listing_labels d M q w

-- the labels of classes are least lines
pub least_labels : (n : ℕ) (akin : ℕ → ℕ → Bool) (labels : List ℕ) → AreClasses n akin labels → AreLeast n labels
least_labels n akin labels c = record {
  long = c.told.long;
  at_most = λ i b. subst (λ m. m ≤ i) (sym (c.told.each i b)) (label_at_most akin i);
  own = λ i b.
      let low = label_at_most akin i in
      let bl : label akin i < n = omega arith in
      ap (slice_index labels) (c.told.each i b) ∙ c.told.each (label akin i) bl ∙ label-label n akin c.exact i b ∙ sym (c.told.each i b);
}
