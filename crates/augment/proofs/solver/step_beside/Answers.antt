use Rattle.std.proofs.lemmas.Result.{IfOk-weaker}
use Rattle.augment.proofs.NextSets.{sets_of_first, step_of_first}
use Rattle.augment.proofs.solver.step_beside.Goals as goal

pub add_all-requires : goal.add_all-requires
add_all-requires g c = sets_of_first g.F.Field.scalars c.args.problem.now c.args.set.now c.in_ok-family.family c.args.others.now c.in_ok-family.ensures c.requires.others

pub returns : goal.returns
returns g c = IfOk-weaker c.step_by_meeting.result _ _
    (λ step h. step_of_first g.F.Field.scalars c.args.problem.now c.args.set.now c.in_ok-family.family c.add_all.new.family step c.in_ok-family.ensures c.add_all.ensures h)
    c.step_by_meeting.ensures
