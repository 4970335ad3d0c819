-- From a set to a larger one.
use Rattle.std.proofs.Common.{◌≡◌, ℕ, suc, ◌-◌, ◌<◌, ◌≤◌, List, [], ◌∷◌, length, sym, subst, arith, All}
use Rattle.families.specs.Families.{SetFamily}
use Rattle.linear_algebra.specs.Scalars.{Scalars}
use Rattle.parity_lines.specs.Problems.{ParityProblem}
use Rattle.search.specs.Found.{IsAsLargeAs, IsLargerThan}
use Rattle.augment.proofs.SetSizes.{at_most}
use Rattle.augment.specs.FirstSets.{KeepsFirst, first_of}
use Rattle.augment.specs.Steps.{TellsStep}
use Rattle.augment.specs.declared.step.Step.{Step}

-- a step from a family that began with the set
pub step_of_first : {X : Type 0} (S : Scalars) (p : ParityProblem) (M : List ℕ) (f g : SetFamily) (step : Step X) →
    f ≡ record { problem = p; sets = M ∷ [] } → KeepsFirst f g → TellsStep S g.problem (first_of g) step → TellsStep S p M step
step_of_first S p M f g step e k h = subst (λ (f : SetFamily). TellsStep S f.problem (first_of f) step) e
    (subst (λ r. TellsStep S r (first_of f) step) k.problem (subst (λ L. TellsStep S g.problem L step) k.first h))

-- sets that are as large as the one that the family began with
pub sets_of_first : (S : Scalars) (p : ParityProblem) (M : List ℕ) (f : SetFamily) (Ls : List (List ℕ)) →
    f ≡ record { problem = p; sets = M ∷ [] } → All (IsAsLargeAs S p M) Ls → All (IsAsLargeAs S f.problem (first_of f)) Ls
sets_of_first S p M f Ls e h = subst (λ (f : SetFamily). All (IsAsLargeAs S f.problem (first_of f)) Ls) (sym e) h

-- a larger set leaves fewer lines
pub fewer_left : (S : Scalars) (p q : ParityProblem) (M L : List ℕ) → q ≡ p → IsLargerThan S q M L →
    length p.lines - length L < length p.lines - length M
fewer_left S p q M L e h =
    let lines = h.0.line_set in
    let most : length L ≤ length p.lines = at_most L (length p.lines) lines.increasing
    (subst (λ (r : ParityProblem). All (λ m. m < length r.lines) L) e lines.within) in
    let more : length L ≡ suc (length M) = h.1 in
    omega arith
