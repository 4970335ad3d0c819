use Rattle.std.proofs.lemmas.Result.{IfOk-weaker}
use Rattle.classes.proofs.GrowthTies.{larger_by_free}
use Rattle.classes.proofs.growing.with_free.Goals as goal

pub returns : goal.returns
returns g c =
    let S = g.F.Field.scalars in
    let L = g.met.F.Field.lawful in
    let p = c.args.state.now.problem in
    let M = c.args.state.now.set in
    let e = c.args.line in
    let P = rw c.problem.ensures at c.len-lines.ensures.problem in
    IfOk-weaker c.with.result _ _
    (λ N w. larger_by_free S L p P M c.set.ensures.independent e N c.requires.within (c.requires.free L) w.0
    (rw c.set.ensures.value at w.1))
    c.with.ensures
