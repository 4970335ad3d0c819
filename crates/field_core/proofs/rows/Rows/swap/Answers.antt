use Rattle.std.proofs.Common.{◌<◌, length, sym, subst}
use Rattle.std.proofs.lemmas.List.Sorted.{All-permutation, IsPermutation-swap}
use Rattle.linear_algebra.specs.Vectors.{IsVector}
use Rattle.field_core.specs.Matrix.{Matrix}
use Rattle.field_core.proofs.rows.Rows.swap.Goals as goal

pub invariant_of-self : goal.invariant_of-self
invariant_of-self g c =
    let first : c.args.i < length c.self.inside.rows.items = subst (λ (m : Matrix). c.args.i < length m.rows) (sym c.self.view_is) c.requires.first in
    let second : c.args.j < length c.self.inside.rows.items = subst (λ (m : Matrix). c.args.j < length m.rows) (sym c.self.view_is) c.requires.second in
    All-permutation (IsVector g.F.Field.scalars c.self.inside.width) c.self.inside.rows.items c.swap.new.self.items
    (IsPermutation-swap c.self.inside.rows.items c.swap.new.self.items c.args.i c.args.j first second c.swap.ensures.items) c.self.invariant
