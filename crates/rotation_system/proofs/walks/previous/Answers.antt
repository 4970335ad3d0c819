use Rattle.std.proofs.Common.{◌≤◌, ◌-◌, inl, inr, get_or, length, refl, ap, subst, ◌∙◌, arith}
use Rattle.rotation_theory.specs.CyclicLists.{arc}
use Rattle.rotation_system.proofs.DartSteps.{arc_next}
use Rattle.rotation_system.proofs.walks.previous.Goals as goal

pub returns-then-index-gt0 : goal.returns-then-index-gt0
returns-then-index-gt0 c =
    let w = c.args.darts.now in
    let i = c.index_of-index.result in
    subst (λ d. 1 ≤ arc (get_or w (i - 1) 0) d w) c.index_of-index.ensures.found
    (arc_next w (i - 1) i (omega (arith, c.index_of-index.ensures.within)) (inl (
      omega (arith, c.index_of-index.ensures.within),
      omega
          arith,
    )))

pub returns-else-index-gt0 : goal.returns-else-index-gt0
returns-else-index-gt0 c =
    let w = c.args.darts.now in
    let i = c.index_of-index.result in
    subst (λ d. 1 ≤ arc (get_or w (length w - 1) 0) d w) (ap (λ k. get_or w k 0) (omega arith) ∙ c.index_of-index.ensures.found)
    (arc_next w (length w - 1) 0 (omega (arith, c.index_of-index.ensures.within)) (inr (omega arith, refl)))
