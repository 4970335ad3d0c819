use Rattle.std.proofs.Common.{map, arith}
use Rattle.echelon.proofs.Growing.{basis_so_far, whole_basis}
use Rattle.echelon.proofs.spanning.basis_of.Goals as goal

pub loop-i-preserved : goal.loop-i-preserved
loop-i-preserved g c =
    basis_so_far g.F.Field.scalars g.met.F.Field.lawful c.args.vectors.now c.loop-i.i (map g.F.Field.number c.row.result.now) c.loop-i.basis c.insert.new.self c.in_ok-_found._found
    c.len-i-end.ensures.vectors (omega arith) c.row.ensures.value c.loop-i.invariant c.in_ok-_found.ensures.ok

pub returns : goal.returns
returns g c = whole_basis g.F.Field.scalars g.met.F.Field.lawful c.args.vectors.now c.loop-i.i c.loop-i.basis c.len-i-end.ensures.vectors (omega arith) c.loop-i.invariant
