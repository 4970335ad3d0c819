-- Sets that lose a line at which a point has a component.
use Rattle.std.proofs.Common.{◌≡◌, ◌≢◌, ◌∙◌, ℕ, ◌*◌, List, length, sym, subst}
use Rattle.linear_algebra.specs.Scalars.{IsField, Scalars}
use Rattle.linear_algebra.specs.Spans.{Combines}
use Rattle.linear_algebra.specs.Vectors.{IsVector, zero_vector}
use Rattle.matching_state.proofs.Ties.{coordinates_vector}
use Rattle.matching_state.specs.Chosen.{Chosen}
use Rattle.matching_state.specs.States.{IsStateOf}
use Rattle.matching_state.specs.Supports.{HasComponent}
use Rattle.parity_lines.proofs.LineSets.{IsWithout}
use Rattle.parity_lines.specs.LineSets.{IsIndependentSet}
use Rattle.parity_lines.specs.Problems.{IsProblem, ParityProblem, vectors_at}
use Rattle.problem_quotients.proofs.PointComponents.{set_without_component}
use Rattle.augment.proofs.PointComponents.{point_component}
use Rattle.augment.specs.Divided.{IsModulo, IsShortened}

-- the coordinates cs of a point over a state, which is that of M; ds are the same
module _ (S : Scalars) (F : IsField S) (p : ParityProblem) (P : IsProblem S p) (M : List ℕ) (a : IsIndependentSet S p M) (s : Chosen)
    (e : IsStateOf p M s) (cs point : List ℕ)
    (h : Combines S s.problem.dimension (vectors_at s.problem s.set) cs point) where
  over : Combines S p.dimension (vectors_at p M) cs point
  over = subst (λ L. Combines S p.dimension (vectors_at p L) cs point) e.set
      (subst (λ (q : ParityProblem). Combines S q.dimension (vectors_at q s.set) cs point) e.problem h)

  pub coordinates_long : (n : ℕ) → n ≡ length cs → n ≡ 2 * length M
  coordinates_long n l = l ∙ (coordinates_vector S F p P M cs point over).length_is

  module _ (ds : List ℕ) (d : ds ≡ cs) where
    pub some_component : IsVector S p.dimension point → point ≢ zero_vector S p.dimension → ¬ ((m : ℕ) → ¬ (HasComponent S M ds m))
    some_component v z none =
        let k = point_component S F p P point M cs v z a over in
        none k.0 (subst (λ us. HasComponent S M us k.0) (sym d) k.1)

    pub shorter_set : (line : ℕ) → HasComponent S M ds line → (rest : List ℕ) → IsWithout M line rest → (q : ParityProblem) →
        IsModulo S point p q →
        IsShortened S q M rest
    shorter_set line k rest w q m =
        let r = set_without_component S F point m.pivot p q P m.modulo M cs a over rest line
        (subst (λ us. HasComponent S M us line) d k) w in
        record { independent = r.0; shorter = r.1 }
