use Rattle.std.proofs.Common.{map, ◌≡◌}
use Rattle.std.specs.List.{insert}
use Rattle.quotients.proofs.Results.{if_ok}
use Rattle.quotients.proofs.Removing.{inserted_items}
use Rattle.quotients.proofs.quotient.with_zero.Goals as goal

pub returns : goal.returns
returns g c =
    let S = g.F.Field.scalars in
    let f = g.F.Field.number in
    let v = c.args.v.now in
    if_ok c.copy_of.result (λ w. w ≡ map f c.deref.result.now) (λ w. w ≡ insert (map f v) c.args.position S.zero) (λ w.
    inserted_items f v c.new-entries.result.items c.extend_from_slice.new.self.items c.push.new.self.items
    c.extend_from_slice-2.new.self.items c.deref.result.now c.args.position S.zero c.zero.result w
    c.new-entries.ensures.items c.in_ok-extend_from_slice.ensures.items c.zero.ensures c.in_ok-push.ensures.items
    c.in_ok-extend_from_slice-2.ensures.items c.deref.ensures.value) c.copy_of.ensures
