use Rattle.std.proofs.Common.{◌≡◌, [], length, sym}
use Rattle.classes.proofs.TurnTies.{not_empty}
use Rattle.classes.specs.Turns.{size_of}
use Rattle.classes.proofs.growing.take_member.Goals as goal

pub started-requires : goal.started-requires
started-requires g c = rw c.problem.ensures c.member.ensures.independent

pub with_free-requires-clause-within : goal.with_free-requires-clause-within
with_free-requires-clause-within g c = (rw c.in-Free.is at (c.in_ok-line.ensures g.met.F.Field.lawful)).0

pub with_free-requires-clause-free : goal.with_free-requires-clause-free
with_free-requires-clause-free g c L = (rw c.in-Free.is at (c.in_ok-line.ensures L)).1

pub returns-in-Free : goal.returns-in-Free
returns-in-Free g c =
    let f = c.args.family.now in
    let size : length c.member.result.now ≡ size_of f = sym (c.member.ensures.size 0 [] (not_empty f.sets c.len-members.ensures.family.nonempty)) in
    rw (c.in_ok-state.ensures.problem, c.in_ok-state.ensures.set, c.problem.ensures, size) at c.in_ok-with_free-in-Free.ensures

pub with_member-requires-clause-directions : goal.with_member-requires-clause-directions
with_member-requires-clause-directions g c L =
    rw c.deref.ensures.value (rw (c.in-Directions.is, c.in_ok-state.ensures.problem, c.in_ok-state.ensures.set, c.problem.ensures, c.member.ensures.value) at (c.in_ok-line.ensures L))
