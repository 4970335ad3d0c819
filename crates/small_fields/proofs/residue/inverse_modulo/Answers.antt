use Rattle.std.proofs.Common.{◌≢◌, ◌%◌, ◌<◌, arith}
use Rattle.std.proofs.Math.Nat.{mod-lt}
use Rattle.small_fields.specs.Laws.Inverses.{next_leaves, next_below}
use Rattle.small_fields.proofs.residue.inverse_modulo.Goals as goal

pub loop-rest-preserved : goal.loop-rest-preserved
loop-rest-preserved c =
    let i = c.loop-rest.invariant in
    let q = c.args.order in
    let r = c.loop-rest.rest in
    let less : q % r < r = mod-lt q i.above in
    let left : q % r ≢ 0 = c.requires.prime.undivided r c.loop-rest-test.true i.below in
    record {
      leaves = next_leaves q c.args.value c.loop-rest.factor r i.above i.below i.leaves;
      above = omega arith;
      below = omega arith;
      small = next_below q c.args.value c.loop-rest.factor r c.requires.prime c.loop-rest-test.true i.below i.leaves;
    }
