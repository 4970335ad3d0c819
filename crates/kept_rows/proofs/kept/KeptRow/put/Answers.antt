use Rattle.std.proofs.Common.{◌≡◌}
use Rattle.std.proofs.Math.ListN.{set}
use Rattle.kept_rows.specs.Kept.{scalars_kept}
use Rattle.kept_rows.proofs.Cases.{moved, plain_view, packed_view, set_plain, set_kept}
use Rattle.kept_rows.proofs.kept.KeptRow.put.Goals as goal
use Rattle.kept_rows.proofs.kept.KeptRow.put.Goals.{in-Plain, in-Packed}

pub returns : goal.returns
returns g c =
    let S = g.F.Field.scalars in
    let order = g.F.Field.ORDER in
    let entries = c.self.inside.entries in
    let u = c.args.self.now in
    let i = c.args.i in
    let x = g.F.Field.number c.args.value in
    elim c.match-self.branch [
      | in-Plain w ↦
          moved w.self-inside-is (λ r. scalars_kept S r.entries ≡ set u i x)
          (set_plain w.in-Plain.row w.write.new.row u i x
          (plain_view S order entries u c.self.view_is c.self.invariant w.in-Plain.row w.in-Plain.is) w.write.ensures)
      | in-Packed w ↦
          moved w.self-inside-is (λ r. scalars_kept S r.entries ≡ set u i x)
          (set_kept S g.met.F.Field.lawful w.in-Packed.bits w.put.new.self u i w.bit_of.result.value x
          (packed_view S order entries u c.self.view_is c.self.invariant w.in-Packed.bits w.in-Packed.is) w.put.ensures w.bit_of.ensures.stands)
    ]
