use Rattle.std.proofs.Common.{◌+◌, ◌*◌, sym, arith}
use Rattle.overlap.proofs.KeptPairs.{ratio_found}
use Rattle.overlap.proofs.point.ratio_at.Goals as goal

pub returns-in-Some : goal.returns-in-Some
returns-in-Some g c = ratio_found g.F.Field.scalars g.met.F.Field.lawful g.F.Field.number g.met.F.Field.is_scalar c.args.first.now c.args.second.now
    (2 * c.args.i) (2 * c.args.i + 1) (omega arith) c.requires.within c.requires.long c.index-first-i.result c.index-second-i.result
    c.in-Some.inverse c.mul.result c.index-first-i.is c.index-second-i.is c.in-Some.ensures.some c.mul.ensures c.requires.proportional

pub returns : goal.returns
returns g c =
    let r = ratio_found g.F.Field.scalars g.met.F.Field.lawful g.F.Field.number g.met.F.Field.is_scalar c.args.first.now c.args.second.now
    (2 * c.args.i + 1) (2 * c.args.i) c.requires.within (omega arith) c.requires.long c.index-first-i-2.result
    c.index-second-i-in-Some-inverse.result c.in-Some-inverse.inverse c.mul-in-Some-inverse.result c.index-first-i-2.is
    c.index-second-i-in-Some-inverse.is c.in-Some-inverse.ensures.some c.mul-in-Some-inverse.ensures (sym c.requires.proportional) in
    (r.1, r.0)
