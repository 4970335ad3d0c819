use Rattle.std.proofs.Common.{map, ap, replicate, ◌∙◌, ◌≡◌, arith}
use Rattle.field_core.proofs.Zeros.{map-replicate}
use Rattle.field_core.proofs.row.Row.zeros.Goals as goal

pub returns : goal.returns
returns g c =
    let f = g.F.Field.number in
    let at_end : c.loop-i._i ≡ c.args.len = omega arith in
    ap (map f) c.loop-i.invariant ∙ map-replicate f c.loop-i._i c.zero-zero.result ∙ ap (λ n. replicate n (f c.zero-zero.result)) at_end ∙ ap (replicate c.args.len) c.zero-zero.ensures
