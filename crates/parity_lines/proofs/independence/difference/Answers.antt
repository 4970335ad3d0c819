use Rattle.std.proofs.Common.{◌≡◌, ◌+◌, ◌*◌, map}
use Rattle.std.proofs.lemmas.Result.{IfOk-weaker}
use Rattle.parity_lines.specs.Relations.{IsDifference}
use Rattle.parity_lines.proofs.Relations.{difference_made}
use Rattle.parity_lines.proofs.independence.difference.Goals as goal

pub returns : goal.returns
returns g c =
    let S = g.F.Field.scalars in
    let f = g.F.Field.number in
    IfOk-weaker c.copy_of.result (λ row. row ≡ map f c.deref.result.now) (IsDifference S (map f c.args.coefficients.now) (c.args.own_left + 2 * c.args.lines_left))
    (λ row e. difference_made S f c.args.coefficients.now c.new-entries.result.items c.extend_from_slice.new.self.items c.push.new.self.items c.push_zeros.new.entries.items c.push_zeros-3.new.entries.items c.deref.result.now
    c.one.result c.neg.result (map f c.push_zeros-2.new.entries.items) row c.args.own_left c.args.lines_left (g.met.F.Field.is_scalar c.neg.result) c.one.ensures c.neg.ensures
    c.new-entries.ensures.items c.in_ok-extend_from_slice.ensures.items c.in_ok-push.ensures.items c.in_ok-push_zeros.ensures c.in_ok-push_zeros-2.ensures c.in_ok-push_zeros-3.ensures c.deref.ensures.value e) c.copy_of.ensures
