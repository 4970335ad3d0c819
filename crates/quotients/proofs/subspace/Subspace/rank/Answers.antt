use Rattle.std.proofs.Common.{ap, sym, ◌∙◌}
use Rattle.field_core.specs.Matrix.{Matrix}
use Rattle.linear_algebra.specs.Ranks.{rank}
use Rattle.linear_algebra.proofs.RankLaws.{rank_of_independent}
use Rattle.quotients.proofs.ReducedBases.{reduced_independent}
use Rattle.quotients.proofs.subspace.Subspace.rank.Goals as goal

pub returns-clause-rank : goal.returns-clause-rank
returns-clause-rank g c =
    let S = g.F.Field.scalars in
    let F = g.met.F.Field.lawful in
    let basis = c.self.inside.basis in
    let reduced = c.self.invariant.reduced in
    c.len.ensures.value ∙ sym (rank_of_independent S F basis.width basis.rows reduced.vectors (reduced_independent S F basis.width basis.rows reduced))
    ∙ ap (λ (m : Matrix). rank S m.width m.rows) c.self.view_is
