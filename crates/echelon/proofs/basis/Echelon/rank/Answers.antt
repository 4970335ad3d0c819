use Rattle.std.proofs.Common.{◌≡◌, length, ap, sym, ◌∙◌, subst}
use Rattle.field_core.specs.Matrix.{Matrix}
use Rattle.linear_algebra.specs.Vectors.{AreVectors}
use Rattle.linear_algebra.specs.Ranks.{rank}
use Rattle.linear_algebra.proofs.RankLaws.{rank_of_independent}
use Rattle.echelon.specs.Eliminations.{taken}
use Rattle.echelon.proofs.Insertion.{length-taken}
use Rattle.echelon.proofs.Reduction.{taken-vectors}
use Rattle.echelon.proofs.basis.Echelon.rank.Goals as goal

pub returns-clause-value : goal.returns-clause-value
returns-clause-value g c =
    c.len.ensures ∙ c.self.inside.steps.ok.0 ∙ sym (length-taken c.self.inside.steps.items) ∙ ap (λ (m : Matrix). length m.rows) c.self.view_is

pub returns-clause-vectors : goal.returns-clause-vectors
returns-clause-vectors g c =
    subst (λ (m : Matrix). AreVectors g.F.Field.scalars m.width m.rows) c.self.view_is
    (taken-vectors g.F.Field.scalars g.met.F.Field.lawful c.self.inside.dimension c.self.inside.steps.items c.self.invariant)

pub returns-clause-rank : goal.returns-clause-rank
returns-clause-rank g c =
    let S = g.F.Field.scalars in
    let F = g.met.F.Field.lawful in
    let d = c.self.inside.dimension in
    let ss = c.self.inside.steps.items in
    c.len.ensures ∙ c.self.inside.steps.ok.0 ∙ sym (length-taken ss) ∙ sym (rank_of_independent S F d (taken ss) (taken-vectors S F d ss c.self.invariant) c.self.invariant.independent)
    ∙ ap (λ (m : Matrix). rank S m.width m.rows) c.self.view_is
