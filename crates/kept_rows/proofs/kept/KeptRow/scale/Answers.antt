use Rattle.std.proofs.Common.{◌≡◌}
use Rattle.linear_algebra.specs.Vectors.{multiple}
use Rattle.kept_rows.specs.Kept.{scalars_kept, IsPackedForTwo}
use Rattle.kept_rows.proofs.Cases.{moved, plain_view, plain_order, packed_view, packed_kept, multiple_plain, multiple_kept}
use Rattle.kept_rows.proofs.Cases.{bits_of_multiple}
use Rattle.kept_rows.proofs.kept.KeptRow.scale.Goals as goal
use Rattle.kept_rows.proofs.kept.KeptRow.scale.Goals.{in-Plain, in-Packed}

pub invariant_of-self : goal.invariant_of-self
invariant_of-self g c =
    let S = g.F.Field.scalars in
    let order = g.F.Field.ORDER in
    let entries = c.self.inside.entries in
    let u = c.args.self.now in
    elim c.match-self.branch [
      | in-Plain w ↦
          moved w.self-inside-is (λ r. IsPackedForTwo order r.entries)
          (plain_order S order entries u c.self.view_is c.self.invariant w.in-Plain.row w.in-Plain.is)
      | in-Packed w ↦
          let known = packed_kept S order entries u c.self.view_is c.self.invariant w.in-Packed.bits w.in-Packed.is in
          moved w.self-inside-is (λ r. IsPackedForTwo order r.entries)
          (known.0, bits_of_multiple w.in-Packed.bits w.scale.new.self w.bit_of.result.value w.scale.ensures)
    ]

pub returns : goal.returns
returns g c =
    let S = g.F.Field.scalars in
    let order = g.F.Field.ORDER in
    let entries = c.self.inside.entries in
    let u = c.args.self.now in
    let x = g.F.Field.number c.args.factor in
    elim c.match-self.branch [
      | in-Plain w ↦
          moved w.self-inside-is (λ r. scalars_kept S r.entries ≡ multiple S x u)
          (multiple_plain S w.in-Plain.row w.multiply.new.self u x
          (plain_view S order entries u c.self.view_is c.self.invariant w.in-Plain.row w.in-Plain.is) w.multiply.ensures)
      | in-Packed w ↦
          let bits = w.in-Packed.bits in
          moved w.self-inside-is (λ r. scalars_kept S r.entries ≡ multiple S x u)
          (multiple_kept S g.met.F.Field.lawful bits w.scale.new.self u w.bit_of.result.value x
          (packed_kept S order entries u c.self.view_is c.self.invariant bits w.in-Packed.is).1 w.bit_of.ensures.bit
          (packed_view S order entries u c.self.view_is c.self.invariant bits w.in-Packed.is) w.scale.ensures w.bit_of.ensures.stands)
    ]
