use Rattle.std.proofs.Common.{rules, map, subst, arith, All}
use Rattle.std.proofs.lemmas.List.{take_all}
use Rattle.std.proofs.lemmas.List.Elements.{All-more}
use Rattle.families.specs.Members.{SpansOf}
use Rattle.families.proofs.member.first_outside.Goals as goal

pub loop-i-preserved : goal.loop-i-preserved
loop-i-preserved g c =
    let v = map g.F.Field.number c.args.v.now in
    let m = c.index-members-i.result in
    let spans : SpansOf g.F.Field.scalars v m = search rules in
    All-more (SpansOf g.F.Field.scalars v) c.args.members.now c.loop-i.i m (omega arith) c.loop-i.invariant
    (subst (SpansOf g.F.Field.scalars v) c.index-members-i.is spans)

pub returns : goal.returns
returns g c =
    let v = map g.F.Field.number c.args.v.now in
    subst (All (SpansOf g.F.Field.scalars v)) (take_all c.loop-i.i c.args.members.now (omega arith)) c.loop-i.invariant
