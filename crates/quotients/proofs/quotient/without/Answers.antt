use Rattle.std.proofs.Common.{map, ◌≡◌}
use Rattle.std.specs.List.{remove}
use Rattle.quotients.proofs.Results.{if_ok}
use Rattle.quotients.proofs.Removing.{without_items}
use Rattle.quotients.proofs.quotient.without.Goals as goal

pub returns : goal.returns
returns g c =
    let f = g.F.Field.number in
    let v = c.args.v.now in
    if_ok c.copy_of.result (λ w. w ≡ map f c.deref.result.now) (λ w. w ≡ remove (map f v) c.args.position) (λ w.
    without_items f v c.new-entries.result.items c.extend_from_slice.new.self.items c.extend_from_slice-2.new.self.items c.deref.result.now
    c.args.position w
    c.new-entries.ensures.items c.in_ok-extend_from_slice.ensures.items c.in_ok-extend_from_slice-2.ensures.items c.deref.ensures.value)
    c.copy_of.ensures
