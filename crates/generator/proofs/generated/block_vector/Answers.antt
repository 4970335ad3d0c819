use Rattle.std.proofs.Common.{arith}
use Rattle.std.proofs.lemmas.List.{length-map}
use Rattle.generator.proofs.Coordinates.{block_vector_of, one_more}
use Rattle.generator.proofs.generated.block_vector.Goals as goal
use Rattle.generator.specs.Coordinates.{coordinate}

pub loop-place-preserved : goal.loop-place-preserved
loop-place-preserved g c = record {
  count = grind arith;
  entries = one_more g.F.Field.number (coordinate c.args.block c.args.number) c.loop-place.vector.items c.push.new.self.items c.coordinate_at.result c.loop-place.place
      c.in_ok-push.ensures.items c.loop-place.invariant.count c.loop-place.invariant.entries c.coordinate_at.ensures;
}

pub returns : goal.returns
returns g c =
    let l = length-map c.loop-place.vector.items g.F.Field.number in
    let m = c.loop-place.invariant.count in
    block_vector_of c.args.block c.args.number _ c.requires.block (omega arith) c.loop-place.invariant.entries
