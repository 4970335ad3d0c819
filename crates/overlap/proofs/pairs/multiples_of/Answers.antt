use Rattle.std.proofs.Common.{List, ℕ, length, map, refl}
use Rattle.std.proofs.lemmas.Result.{IfOk-weaker}
use Rattle.field_core.proofs.Values.{vector_of_values}
use Rattle.overlap.proofs.Multiples.{basis_has_span}
use Rattle.overlap.proofs.pairs.multiples_of.Goals as goal

pub returns : goal.returns
returns g c =
    let S = g.F.Field.scalars in
    let f = g.F.Field.number in
    let d = length c.args.v.now in
    let v : List ℕ = map f c.args.v.now in
    IfOk-weaker c.basis_of.result _ _
    (λ basis. basis_has_span S g.met.F.Field.lawful d v _ basis
    (vector_of_values S f g.met.F.Field.is_scalar c.args.v.now d refl) c.in_ok-rows.ensures) c.basis_of.ensures
