use Rattle.std.proofs.Common.{◌≡◌, ◌<◌, length, sym, subst, arith}
use Rattle.matching_state.specs.Bases.{IsKept}
use Rattle.matching_state.specs.Chosen.{Chosen}
use Rattle.matching_state.specs.DirectSteps.{IsAddition}
use Rattle.matching_state.specs.LinePlaces.{rank_beside}
use Rattle.matching_state.proofs.Moves.{Puts, state_of, width_is, insert_fits, insert_room, inserted_kept, is_new}
use Rattle.matching_state.proofs.matched.Matched.insert.Goals as goal
use Rattle.matching_state.proofs.matched.Matched.insert.Goals.{After-width-width, After-put_in_order}
use Rattle.matching_state.proofs.matched.Matched.insert.Given.{Over}

within : (g : Over) (c : After-width-width g) → c.args.line < length c.self.inside.problem.now.lines
within g c = subst (λ (s : Chosen). c.args.line < length s.problem.lines) (sym c.self.view_is) c.requires.within

free : (g : Over) (c : After-width-width g) → rank_beside g.F.Field.scalars c.self.inside.problem.now c.self.inside.set c.args.line ≡ 2
free g c = subst (λ (s : Chosen). rank_beside g.F.Field.scalars s.problem s.set c.args.line ≡ 2) (sym c.self.view_is) c.requires.free

pub put_line-requires-clause-within : goal.put_line-requires-clause-within
put_line-requires-clause-within g c = within g (goal.at.put_line-requires-clause-within g c).After-width-width

pub put_line-requires-clause-width : goal.put_line-requires-clause-width
put_line-requires-clause-width g c =
    width_is g.F.Field.scalars g.met.F.Field.lawful c.self.inside.problem.now c.self.inside.set c.self.inside.frame c.self.invariant c.width-width.ensures.frame

pub put_line-requires-clause-room : goal.put_line-requires-clause-room
put_line-requires-clause-room g c =
    let w = (goal.at.put_line-requires-clause-room g c).After-width-width in
    let l = insert_fits g.F.Field.scalars g.met.F.Field.lawful c.self.inside.problem.now c.self.inside.set c.self.inside.frame c.self.invariant c.args.line (within g w) (free g w)
    c.in_ok-next.next c.in_ok-next.ensures in
    let e = c.len.ensures.value in
    omega arith

pub put_line-requires-clause-listed : goal.put_line-requires-clause-listed
put_line-requires-clause-listed g c = (c.self.inside.set, sym c.len.ensures.value, c.self.invariant.listed)

pub put_in_order-requires : goal.put_in_order-requires
put_in_order-requires g c =
    let w = (goal.at.put_in_order-requires g c).After-width-width in
    let l = insert_room g.F.Field.scalars g.met.F.Field.lawful c.self.inside.problem.now c.self.inside.set c.self.inside.frame c.self.invariant c.args.line (within g w) (free g w)
    c.in_ok-next.next c.in_ok-next.ensures in
    let e = c.put_line.ensures.width in
    let f = width_is g.F.Field.scalars g.met.F.Field.lawful c.self.inside.problem.now c.self.inside.set c.self.inside.frame c.self.invariant c.width-width.ensures.frame in
    omega arith

kept : (g : Over) (c : After-put_in_order g) → c.args.line < length c.self.inside.problem.now.lines →
    rank_beside g.F.Field.scalars c.self.inside.problem.now c.self.inside.set c.args.line ≡ 2 →
    IsKept g.F.Field.scalars (state_of c.self.inside.problem.now c.in_ok-next.next c.put_in_order.new.frame)
kept g c l r =
    inserted_kept g.F.Field.scalars g.met.F.Field.lawful c.self.inside.problem.now c.self.inside.set c.self.inside.frame c.self.invariant c.args.line l r
    c.in_ok-next.next c.in_ok-next.ensures c.put_line.new.frame c.put_in_order.new.frame
    (subst (λ n. Puts g.F.Field.scalars c.self.inside.problem.now c.args.line n c.self.inside.frame c.put_line.new.frame) c.len.ensures.value c.put_line.ensures.listed)
    c.put_in_order.ensures.listed

pub invariant_of-self : goal.invariant_of-self
invariant_of-self g c =
    let w = (goal.at.invariant_of-self g c).After-width-width in
    kept g (goal.at.invariant_of-self g c).After-put_in_order (within g w) (free g w)

pub returns-clause-independent : goal.returns-clause-independent
returns-clause-independent g c =
    let w = (goal.at.returns-clause-independent g c).After-width-width in
    (kept g (goal.at.returns-clause-independent g c).After-put_in_order (within g w) (free g w)).independent

pub returns-clause-ok : goal.returns-clause-ok
returns-clause-ok g c =
    let w = (goal.at.returns-clause-ok g c).After-width-width in
    subst (λ (s : Chosen). IsAddition s.set c.args.line c.in_ok-next.next) c.self.view_is
    (record {
      new = is_new g.F.Field.scalars g.met.F.Field.lawful c.self.inside.problem.now c.self.inside.set c.self.inside.frame c.self.invariant c.args.line (within g w) (free g w)
          c.in_ok-next.next c.in_ok-next.ensures;
      lines = c.in_ok-next.ensures.1;
    })
