use Rattle.std.proofs.Common.{All, IfOk, List, map, subst}
use Rattle.std.specs.Prelude.{MatchOption}
use Rattle.quotients.proofs.Results.{if_ok}
use Rattle.families.specs.Families.{IsCommon, IsFirstMissing}
use Rattle.families.specs.Members.{IsFirstOutside, SpansOf}
use Rattle.families.specs.declared.member.Member.{Member}
use Rattle.families.proofs.Families.{tells_missing}
use Rattle.families.proofs.family.Family.member_missing.Goals as goal

pub returns : goal.returns
returns g c =
    let S = g.F.Field.scalars in
    let members = c.self.inside.members.items in
    let v = map g.F.Field.number c.args.v.now in
    let f = c.args.self.now in
    let found_in = λ (ms : List (Member g.row.F.Denot)). IfOk c.first_outside.result (λ found. MatchOption found (All (SpansOf S v) ms) (IsFirstOutside S ms v)) in
    if_ok c.first_outside.result (λ found. MatchOption found (All (SpansOf S v) members) (IsFirstOutside S members v))
    (λ found. MatchOption found (IsCommon S f v) (IsFirstMissing S f v))
    (tells_missing S c.self.inside.problem.now members c.self.inside.common c.self.invariant v f c.self.view_is)
    (subst found_in c.deref.ensures.value c.first_outside.ensures)
