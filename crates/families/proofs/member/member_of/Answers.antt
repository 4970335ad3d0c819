use Rattle.std.proofs.Common.{subst, sym}
use Rattle.families.specs.Families.{Spans}
use Rattle.families.specs.Members.{IsSubspaceOf}
use Rattle.families.proofs.member.member_of.Goals as goal

pub returns-clause-span : goal.returns-clause-span
returns-clause-span g c =
    let S = g.F.Field.scalars in
    let p = c.args.problem.now in
    subst (λ set. IsSubspaceOf S p c.in_ok-span.span (λ v. Spans S p v set)) (sym c.in_ok-set.ensures) c.in_ok-span.ensures
