use Rattle.std.proofs.Common.{◌≤◌, length, take, ap, ◌∙◌, arith, List, ℕ}
use Rattle.field_core.specs.Matrix.{Matrix}
use Rattle.echelon.specs.Eliminations.{taken}
use Rattle.echelon.proofs.Insertion.{length-taken}
use Rattle.echelon.proofs.Prefixes.{kept_is_echelon, taken-take}
use Rattle.echelon.proofs.basis.Echelon.truncate.Goals as goal

pub invariant_of-self : goal.invariant_of-self
invariant_of-self g c =
    let ss = c.self.inside.steps.items in
    let as_many = ap (λ (m : Matrix). length m.rows) c.self.view_is in
    let short : c.args.rank ≤ length ss = (let e = length-taken ss in let r = c.requires in omega arith) in
    kept_is_echelon g.F.Field.scalars g.met.F.Field.lawful c.self.inside.dimension ss c.truncate.new.self.items c.args.rank c.truncate.ensures.items short c.self.invariant

pub returns : goal.returns
returns g c =
    let m : List (List ℕ) → Matrix = λ rows. record { width = c.self.inside.dimension; rows = rows } in
    ap m (ap taken c.truncate.ensures.items ∙ taken-take c.self.inside.steps.items c.args.rank)
    ∙ ap (λ (m : Matrix). let w : Matrix = record { width = m.width; rows = take c.args.rank m.rows } in w) c.self.view_is
