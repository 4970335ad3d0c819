use Rattle.std.proofs.Common.{◌≡◌}
use Rattle.packed_rows.specs.Carried.{carried}
use Rattle.kept_rows.specs.Kept.{scalars_kept, IsPackedForTwo}
use Rattle.kept_rows.proofs.Cases.{moved, plain_view, plain_order, packed_view, packed_kept, carried_plain, carried_kept, bits_of_carried}
use Rattle.kept_rows.proofs.kept.KeptRow.carry.Goals as goal
use Rattle.kept_rows.proofs.kept.KeptRow.carry.Goals.{in-Plain, in-Packed}

pub invariant_of-self : goal.invariant_of-self
invariant_of-self g c =
    let S = g.F.Field.scalars in
    let order = g.F.Field.ORDER in
    let entries = c.self.inside.entries in
    let u = c.args.self.now in
    elim c.match-self.branch [
      | in-Plain w ↦
          moved w.self-inside-is (λ r. IsPackedForTwo order r.entries)
          (plain_order S order entries u c.self.view_is c.self.invariant w.in-Plain.row w.in-Plain.is)
      | in-Packed w ↦
          let known = packed_kept S order entries u c.self.view_is c.self.invariant w.in-Packed.bits w.in-Packed.is in
          moved w.self-inside-is (λ r. IsPackedForTwo order r.entries)
          (known.0, bits_of_carried w.in-Packed.bits w.carry-in-Packed.new.self c.args.from c.args.to known.1 w.carry-in-Packed.ensures)
    ]

pub returns : goal.returns
returns g c =
    let S = g.F.Field.scalars in
    let order = g.F.Field.ORDER in
    let entries = c.self.inside.entries in
    let u = c.args.self.now in
    elim c.match-self.branch [
      | in-Plain w ↦
          moved w.self-inside-is (λ r. scalars_kept S r.entries ≡ carried u c.args.from c.args.to)
          (carried_plain w.in-Plain.row w.carry.new.row u c.args.from c.args.to
          (plain_view S order entries u c.self.view_is c.self.invariant w.in-Plain.row w.in-Plain.is) w.carry.ensures)
      | in-Packed w ↦
          let bits = w.in-Packed.bits in
          moved w.self-inside-is (λ r. scalars_kept S r.entries ≡ carried u c.args.from c.args.to)
          (carried_kept S bits w.carry-in-Packed.new.self u c.args.from c.args.to
          (packed_view S order entries u c.self.view_is c.self.invariant bits w.in-Packed.is) w.carry-in-Packed.ensures)
    ]
