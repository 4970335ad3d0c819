use Rattle.std.proofs.Common.{map}
use Rattle.augment.proofs.FamiliesModulo.{below_first, below_fits, below_independent, below_more, shortened_below}
use Rattle.augment.proofs.Meetings.{first_as_long, member_spans}
use Rattle.augment.specs.Divided.{IsShortened}
use Rattle.augment.proofs.FirstSets.{not_empty}
use Rattle.augment.specs.FirstSets.{first_of}
use Rattle.augment.proofs.modulo.family_modulo.Goals as goal

pub member-requires : goal.member-requires
member-requires g c = not_empty c.args.family.now.sets c.len-members.ensures.family.nonempty

pub shortened-requires-clause-spanned : goal.shortened-requires-clause-spanned
shortened-requires-clause-spanned g c =
    member_spans g.F.Field.scalars c.args.family.now (map g.F.Field.number c.args.point.now) c.requires.point.common 0
    (not_empty c.args.family.now.sets c.len-members.ensures.family.nonempty) c.problem-problem.result.now c.problem-problem.ensures
    c.member.result.now c.member.ensures.value

pub new-requires : goal.new-requires
new-requires g c =
    (shortened_below g.F.Field.scalars (map g.F.Field.number c.args.point.now) c.problem-problem.result.now c.args.family.now.problem
    c.args.modulo.now c.member.result.now c.in_ok-first.first c.problem-problem.ensures c.requires.modulo c.in_ok-first.ensures).independent

pub loop-i-init : goal.loop-i-init
loop-i-init g c =
    let S = g.F.Field.scalars in
    let f = c.args.family.now in
    let q = c.args.modulo.now in
    below_first S q (first_of f) c.in_ok-below.below c.member.result.now c.in_ok-first.first
    (shortened_below S (map g.F.Field.number c.args.point.now) c.problem-problem.result.now f.problem q c.member.result.now
    c.in_ok-first.first
    c.problem-problem.ensures c.requires.modulo c.in_ok-first.ensures) c.in_ok-below.ensures c.member.ensures.value

pub add-requires-clause-independent : goal.add-requires-clause-independent
add-requires-clause-independent g c =
    let S = g.F.Field.scalars in
    let f = c.args.family.now in
    let q = c.args.modulo.now in
    let K = c.member-in-loop-i.result.now in
    let N = c.in_ok-set.set in
    let one : IsShortened S q K N = shortened_below S (map g.F.Field.number c.args.point.now) c.problem-problem.result.now f.problem q K N
    c.problem-problem.ensures c.requires.modulo c.in_ok-set.ensures in
    let long = first_as_long S f c.len-members.ensures.family K c.member-in-loop-i.ensures.size in
    below_independent S q (first_of f) c.loop-i.below K N one long c.loop-i.invariant

pub add-requires-clause-size : goal.add-requires-clause-size
add-requires-clause-size g c =
    let S = g.F.Field.scalars in
    let f = c.args.family.now in
    let q = c.args.modulo.now in
    let K = c.member-in-loop-i.result.now in
    let N = c.in_ok-set.set in
    let one : IsShortened S q K N = shortened_below S (map g.F.Field.number c.args.point.now) c.problem-problem.result.now f.problem q K N
    c.problem-problem.ensures c.requires.modulo c.in_ok-set.ensures in
    let long = first_as_long S f c.len-members.ensures.family K c.member-in-loop-i.ensures.size in
    below_fits S q (first_of f) c.loop-i.below K N one long c.loop-i.invariant

pub loop-i-preserved : goal.loop-i-preserved
loop-i-preserved g c =
    let S = g.F.Field.scalars in
    let f = c.args.family.now in
    let q = c.args.modulo.now in
    let K = c.member-in-loop-i.result.now in
    let N = c.in_ok-set.set in
    let one : IsShortened S q K N = shortened_below S (map g.F.Field.number c.args.point.now) c.problem-problem.result.now f.problem q K N
    c.problem-problem.ensures c.requires.modulo c.in_ok-set.ensures in
    let long = first_as_long S f c.len-members.ensures.family K c.member-in-loop-i.ensures.size in
    below_more S q (first_of f) c.loop-i.below K N one long c.loop-i.invariant c.add.new.self c.in_ok-add.ensures.ok

pub returns : goal.returns
returns g c = record { problem = c.loop-i.invariant.problem; first = c.loop-i.invariant.first }
