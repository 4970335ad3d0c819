use Rattle.std.proofs.Common.{[], ap, ◌∙◌, arith}
use Rattle.field_core.specs.Matrix.{Matrix}
use Rattle.parity_lines.proofs.IndependentLines.{no_lines, all_lines, whole_basis}
use Rattle.parity_lines.proofs.independence.basis_of_lines.Goals as goal

pub loop-i-init : goal.loop-i-init
loop-i-init g c =
    no_lines g.F.Field.scalars c.args.problem.now c.args.set.now c.in_ok-basis.basis
    (c.in_ok-basis.ensures ∙ ap (λ d. let m : Matrix = record { width = d; rows = [] } in m) c.dimension.ensures)

pub returns : goal.returns
returns g c =
    let S = g.F.Field.scalars in
    let p = c.args.problem.now in
    let M = c.args.set.now in
    (all_lines S p M c.loop-i.i c.loop-i.basis (omega arith) c.loop-i.invariant, whole_basis S p M c.loop-i.i c.loop-i.basis (omega arith) c.loop-i.invariant)
