use Rattle.std.proofs.Common.{subst}
use Rattle.quotients.specs.Subspaces.{HasElements}
use Rattle.families.specs.Families.{IsCommon, SetFamily}
use Rattle.families.proofs.family.Family.common.Goals as goal

pub returns-clause-elements : goal.returns-clause-elements
returns-clause-elements g c =
    let S = g.F.Field.scalars in
    subst (λ (f : SetFamily). HasElements S c.self.inside.common (IsCommon S f)) c.self.view_is c.self.invariant.common_is.elements
