use Rattle.std.proofs.Common.{map}
use Rattle.echelon.proofs.Loops.{step_eliminates}
use Rattle.echelon.proofs.elimination.eliminate.Goals as goal

pub returns : goal.returns
returns g c =
    let f = g.F.Field.number in
    let told = step_eliminates g.F.Field.scalars f c.args.step.now c.args.v.now c.as_slice.result.now (map f c.axpy.new.target) c.index-v-step.result c.requires.pivot c.index-v-step.is c.as_slice.ensures.value c.axpy.ensures in
    record { factor = told.0; rest = told.1 }
