use Rattle.std.proofs.Common.{◌≡◌, ◌∷◌, [], sym, subst, arith}
use Rattle.rotation_theory.specs.CyclicLists.{empties}
use Rattle.rotation_system.proofs.DartSteps.{empties_no, empties_one}
use Rattle.rotation_system.proofs.rotation.Rotation.empty_at.Goals as goal

pub returns-then-darts-eq0-clause-value : goal.returns-then-darts-eq0-clause-value
returns-then-darts-eq0-clause-value c = subst (λ w. 1 ≡ empties (w ∷ [])) c.darts.ensures.value
    (sym (empties_one c.darts.result.now (omega arith)))

pub returns-else-darts-eq0-clause-value : goal.returns-else-darts-eq0-clause-value
returns-else-darts-eq0-clause-value c = subst (λ w. 0 ≡ empties (w ∷ [])) c.darts.ensures.value
    (sym (empties_no c.darts.result.now (λ q. omega (arith, q))))
