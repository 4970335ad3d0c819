use Rattle.std.proofs.Common.{map, sym, ◌∙◌, arith}
use Rattle.std.proofs.lemmas.List.{length-map}
use Rattle.field_core.proofs.Loops.{scaled_more}
use Rattle.field_core.proofs.vectors.scale.Goals as goal

pub loop-x-preserved : goal.loop-x-preserved
loop-x-preserved g c =
    let f = g.F.Field.number in
    scaled_more g.F.Field.scalars f c.loop-x.target (map f c.args.target.now) (f c.args.factor) c.loop-x.x-index
    c.x-item.result c.mul.result (omega arith) (length-map c.args.target.now f ∙ sym c.loop-x.auto.target) c.x-item.is c.mul.ensures
    c.loop-x.invariant
