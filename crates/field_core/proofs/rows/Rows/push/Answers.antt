use Rattle.field_core.proofs.Values.{push_values}
use Rattle.field_core.proofs.rows.Rows.push.Goals as goal

pub invariant_of-self-2 : goal.invariant_of-self-2
invariant_of-self-2 g c =
    push_values g.F.Field.scalars g.F.Field.number g.met.F.Field.is_scalar
    (record { width = c.self.inside.width; rows = c.self.inside.rows.items }) c.args.self.now c.push.new.self.items c.in_ok-row.row
    c.args.v.now c.self.invariant c.self.view_is c.requires c.in_ok-row.ensures c.in_ok-push.ensures.items
