-- What an elimination finds of a vector.
use Rattle.std.specs.Prelude.{ℕ, List, [], ◌∷◌, ◌++◌, map}
use Rattle.linear_algebra.specs.Scalars.{Scalars}
use Rattle.linear_algebra.specs.Spans.{InSpan, Combines}
use Rattle.echelon.specs.Leads.{LeadsAt}
use Rattle.echelon.specs.Eliminations.{taken, IsEchelon, IsNextStep}
use Rattle.echelon.specs.declared.elimination.Found.{Found}
use Rattle.echelon.specs.declared.elimination.Found.TheVariants.{Inside, Outside}
use Rattle.echelon.specs.declared.elimination.Remainder.{Remainder}
use Rattle.echelon.specs.declared.step.Step.{Step}

-- v is outside the span; what is left of it leads at p, and its step there keeps the basis
pub record IsOutside {X : Type 0} (S : Scalars) (f : X → ℕ) (d : ℕ) (ss : List (Step X)) (v : List ℕ) (left : Remainder X) (p : ℕ) : Type 0 where
  pub outside : ¬ (InSpan S d (taken ss) v)
  pub leads : LeadsAt S left.rest p
  pub next : (s : Step X) → IsNextStep S v left.rest p (map f left.coefficients.items) s → IsEchelon S d (ss ++ s ∷ [])

-- coefficients of v over the vectors taken, or what is left of it
abbrev pub Finds : {X : Type 0} → Scalars → (X → ℕ) → ℕ → List (Step X) → List ℕ → Found X → Type 0
Finds S f d ss v (Inside cs) = Combines S d (taken ss) cs v
Finds S f d ss v (Outside left p) = IsOutside S f d ss v left p
