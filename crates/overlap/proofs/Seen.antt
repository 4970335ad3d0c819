-- What is told of coordinates holds of what is seen of them.
use Rattle.std.proofs.Common.{◌≡◌, ℕ, List, sym, ◌∙◌, subst}
use Rattle.linear_algebra.specs.Scalars.{Scalars}
use Rattle.overlap.specs.Pairs.{AreProportionalAt}
use Rattle.overlap.specs.PointedOverlaps.{IsPointed}
use Rattle.overlap.specs.Points.{HaveBothAt, IsPointOf}
use Rattle.parity_lines.specs.Problems.{ParityProblem}

module _ (S : Scalars) (cs ds seen seen' : List ℕ) (is : seen ≡ cs) (is' : seen' ≡ ds) where
  pub both_seen : (i : ℕ) × HaveBothAt S cs ds i → (i : ℕ) × HaveBothAt S seen seen' i
  both_seen h =
      subst (λ (xs : List ℕ). (i : ℕ) × HaveBothAt S xs seen' i) (sym is)
      (subst (λ (ys : List ℕ). (i : ℕ) × HaveBothAt S cs ys i) (sym is') h)

  pub proportional_seen : ((i : ℕ) → HaveBothAt S cs ds i → AreProportionalAt S cs ds i) → (i : ℕ) → HaveBothAt S seen seen' i →
      AreProportionalAt S seen seen' i
  proportional_seen h = subst (λ (xs : List ℕ). (i : ℕ) → HaveBothAt S xs seen' i → AreProportionalAt S xs seen' i) (sym is)
      (subst (λ (ys : List ℕ). (i : ℕ) → HaveBothAt S cs ys i → AreProportionalAt S cs ys i) (sym is') h)

  pub point_seen : (p : ParityProblem) (M x : List ℕ) → IsPointOf S p M seen seen' x → IsPointOf S p M cs ds x
  point_seen p M x h = subst (λ (xs : List ℕ). IsPointOf S p M xs ds x) is (subst (λ (ys : List ℕ). IsPointOf S p M seen ys x) is' h)

-- the problem and the set are those of the state
pub pointed_seen : (S : Scalars) (p q : ParityProblem) (M L K : List ℕ) (e h : ℕ) (x : List ℕ) → q ≡ p → K ≡ L → L ≡ M →
    IsPointed S (record { problem = p; set = M; first = e; second = h; point = x }) →
    IsPointed S (record { problem = q; set = K; first = e; second = h; point = x })
pointed_seen S p q M L K e h x is_p is_l is_m k =
    subst (λ (r : ParityProblem). IsPointed S (record { problem = r; set = K; first = e; second = h; point = x })) (sym is_p)
    (subst (λ (N : List ℕ). IsPointed S (record { problem = p; set = N; first = e; second = h; point = x })) (sym (is_l ∙ is_m)) k)
