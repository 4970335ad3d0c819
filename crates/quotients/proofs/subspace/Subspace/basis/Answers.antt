use Rattle.std.proofs.Common.{subst}
use Rattle.field_core.specs.Matrix.{Matrix}
use Rattle.linear_algebra.specs.Spans.{IsIndependent}
use Rattle.quotients.proofs.ReducedBases.{reduced_independent}
use Rattle.quotients.proofs.subspace.Subspace.basis.Goals as goal

pub returns-clause-independent : goal.returns-clause-independent
returns-clause-independent g c =
    let S = g.F.Field.scalars in
    let basis = c.self.inside.basis in
    subst (λ (m : Matrix). IsIndependent S m.width m.rows) c.self.view_is (reduced_independent S g.met.F.Field.lawful basis.width basis.rows c.self.invariant.reduced)
