-- What the classes of lines tell of the first set of a family.
use Rattle.std.proofs.Common.{◌≡◌, ◌≢◌, ℕ, suc, List, [], ◌∷◌, None, length, get_or, sym, ap, ◌∙◌, subst}
use Rattle.std.proofs.lemmas.List.{get_or_append_left}
use Rattle.field_core.specs.Matrix.{Matrix}
use Rattle.linear_algebra.specs.Scalars.{IsField, Scalars}
use Rattle.linear_algebra.specs.Vectors.{IsVector, zero_vector}
use Rattle.matching_state.specs.Chosen.{Chosen}
use Rattle.matching_state.specs.States.{IsStateOf}
use Rattle.matching_state.specs.DirectSteps.{TellsDirectStep}
use Rattle.matching_state.specs.Missing.{Misses}
use Rattle.overlap.specs.PointedOverlaps.{IsOverlapAt, IsPoint, PointedOverlap}
use Rattle.parity_lines.specs.LineSets.{IsIndependentSet}
use Rattle.parity_lines.specs.Certificates.{IsGoodAnswer}
use Rattle.parity_lines.specs.Problems.{IsProblem, ParityProblem}
use Rattle.families.specs.Families.{IsCommon, IsFamily, IsFirstMissing, SetFamily, Spans}
use Rattle.classes.specs.Divisions.{ArePartsOfBound}
use Rattle.classes.specs.Ends.{IsOverlapping, IsSetOf}
use Rattle.classes.specs.Partitions.{HasGrown, HasNoCommon}
use Rattle.augment.proofs.Meetings.{first_independent, first_size}
use Rattle.augment.proofs.StepsModulo.{set_misses}
use Rattle.augment.proofs.FirstSets.{not_empty}
use Rattle.augment.specs.FirstSets.{first_of}
use Rattle.search.specs.Found.{IsLargerThan}

module _ (S : Scalars) (f : SetFamily) (k : IsFamily S f) where
  -- parts of the right bound make a good answer, with no kernel
  pub best_of_parts : (kernel : Matrix) (parts : List (List ℕ)) (n : ℕ) (p : ParityProblem) → kernel ≡ record { width = n; rows = [] } →
      n ≡ p.dimension → p ≡ f.problem → ArePartsOfBound S f.problem k.size parts → IsGoodAnswer S f.problem (first_of f) kernel parts
  best_of_parts kernel parts n p e m q h = subst (λ (r : Matrix). IsGoodAnswer S f.problem (first_of f) r parts)
      (sym (e ∙ ap (λ w. record { width = w; rows = [] }) (m ∙ ap (λ (r : ParityProblem). r.dimension) q)))
      (record { independent_set = first_independent S f k; certificate = h.0; tight = h.1 ∙ sym (first_size S f k) })

  pub larger_of_classes : (L : List ℕ) → IsSetOf S f.problem (suc k.size) L → IsLargerThan S f.problem (first_of f) L
  larger_of_classes L h = (h.independent, h.size ∙ ap suc (sym (first_size S f k)))

  module _ (g : SetFamily) (h : HasGrown S f g) where
    pub grown_first : first_of g ≡ first_of f
    grown_first = ap (λ xs. get_or xs 0 []) h.sets ∙ get_or_append_left f.sets h.added [] 0 (not_empty f.sets k.nonempty)

    -- an overlap of sets of the old size is one for the grown family
    pub overlapping_grown : (M : List ℕ) (e l : ℕ) → IsOverlapping S f.problem k.size M e l →
        IsOverlapping S g.problem (length (first_of g)) M e l
    overlapping_grown M e l o = subst (λ (p : ParityProblem). IsOverlapping S p (length (first_of g)) M e l) (sym h.problem)
        (subst (λ n. IsOverlapping S f.problem n M e l) (sym (ap length grown_first ∙ first_size S f k)) o)

pub one_more : (k n m : ℕ) → k ≡ suc n → m ≡ n → k ≡ suc m
one_more k n m e f = e ∙ ap suc (sym f)

-- a state of the set M: p is the problem of f
module _ (S : Scalars) (f : SetFamily) (M : List ℕ) (p : ParityProblem) (e : p ≡ f.problem) (s : Chosen)
    (d : IsStateOf p M s) where
  pub state_no_step : TellsDirectStep S f.problem M None → TellsDirectStep S s.problem s.set None
  state_no_step h = subst (λ L. TellsDirectStep S s.problem L None) (sym d.set)
      (subst (λ (q : ParityProblem). TellsDirectStep S q M None) (sym (d.problem ∙ e)) h)

  -- an overlap over the state
  module _ (i j : ℕ) (o : PointedOverlap) (w : IsOverlapAt s.problem s.set i j o) where
    same : o.problem ≡ f.problem
    same = w.problem ∙ d.problem ∙ e

    pub as_long_as_set : (N : List ℕ) (n : ℕ) → n ≡ length N → length M ≡ n → length N ≡ length o.set
    as_long_as_set N n a b = sym (b ∙ a) ∙ ap length (sym (w.set ∙ d.set))

    pub independent_here : (L : List ℕ) → IsIndependentSet S o.problem L → IsIndependentSet S f.problem L
    independent_here L i = subst (λ (q : ParityProblem). IsIndependentSet S q L) same i

    -- its point, which v shows, where no vector but zero is common
    module _ (v : List ℕ) (y : v ≡ o.point) (x : IsPoint S o.problem o.set o.first o.second o.point) where
      pub point_not_common : HasNoCommon S f → ¬ (IsCommon S f v)
      point_not_common n c = subst (λ (q : ParityProblem). o.point ≢ zero_vector S q.dimension) same x.not_zero
          (n o.point (subst (λ (q : ParityProblem). IsVector S q.dimension o.point) same x.vector) (subst (IsCommon S f) y c))

      pub member_misses : IsField S → IsProblem S f.problem → (i : ℕ) (N : List ℕ) → N ≡ get_or f.sets i [] →
          IsIndependentSet S f.problem N →
          IsFirstMissing S f v i → Misses S o.problem N (o.point ∷ [])
      member_misses L P i N n a m = subst (λ (q : ParityProblem). Misses S q N (o.point ∷ [])) (sym same)
          (set_misses S L f.problem P N o.point a (subst (λ (q : ParityProblem). IsVector S q.dimension o.point) same x.vector)
          (λ t. m.outside (subst (λ u. Spans S f.problem u (get_or f.sets i [])) (sym y) (subst (Spans S f.problem o.point) n t))))
