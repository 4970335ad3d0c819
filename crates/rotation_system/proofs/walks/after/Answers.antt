use Rattle.std.proofs.Common.{◌≤◌, ◌+◌, inl, inr, get_or, refl, subst, arith}
use Rattle.rotation_theory.specs.CyclicLists.{arc}
use Rattle.rotation_system.proofs.DartSteps.{arc_next}
use Rattle.rotation_system.proofs.walks.after.Goals as goal

pub returns-then-next-darts : goal.returns-then-next-darts
returns-then-next-darts c =
    let w = c.args.darts.now in
    let i = c.index_of-next.result in
    subst (λ d. 1 ≤ arc d (get_or w (i + 1) 0) w) c.index_of-next.ensures.found
    (arc_next w i (i + 1) c.index_of-next.ensures.within (inl (omega arith, refl)))

pub returns-else-next-darts : goal.returns-else-next-darts
returns-else-next-darts c =
    let w = c.args.darts.now in
    let i = c.index_of-next.result in
    subst (λ d. 1 ≤ arc d (get_or w 0 0) w) c.index_of-next.ensures.found (arc_next w i 0 c.index_of-next.ensures.within
    (inr (omega arith, refl)))
