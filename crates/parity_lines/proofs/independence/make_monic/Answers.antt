use Rattle.std.proofs.Common.{List, ℕ, All, subst}
use Rattle.linear_algebra.specs.Scalars.{IsScalar}
use Rattle.field_core.proofs.Values.{numbers_of_values}
use Rattle.parity_lines.specs.Relations.{IsLeadInverse}
use Rattle.parity_lines.proofs.Relations.{monic_multiple}
use Rattle.parity_lines.proofs.independence.make_monic.Goals as goal

pub returns-in-Some : goal.returns-in-Some
returns-in-Some g c =
    let S = g.F.Field.scalars in
    let f = g.F.Field.number in
    monic_multiple S g.met.F.Field.lawful c.args.row.now c.multiply.new.self (f c.in-Some.inverse)
    (subst (All (IsScalar S)) c.as_slice.ensures.value (numbers_of_values S f g.met.F.Field.is_scalar c.as_slice.result.now)) (g.met.F.Field.is_scalar c.in-Some.inverse)
    (subst (λ (v : List ℕ). IsLeadInverse S v (f c.in-Some.inverse)) c.as_slice.ensures.value c.in-Some.ensures) c.multiply.ensures
