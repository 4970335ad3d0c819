use Rattle.std.proofs.Common.{◌<◌, length, sym, ◌∙◌, subst, arith}
use Rattle.matching_state.specs.Bases.{IsKept}
use Rattle.matching_state.specs.Chosen.{Chosen}
use Rattle.matching_state.specs.DirectSteps.{IsSwap}
use Rattle.matching_state.specs.LinePlaces.{IsExposed}
use Rattle.matching_state.specs.Overlaps.{InSupport}
use Rattle.matching_state.proofs.Moves.{Puts, state_of, width_is, set_fits, exchange_fits, exchange_room, rest_listed, exchanged_kept, is_swap}
use Rattle.matching_state.proofs.matched.Matched.exchange.Goals as goal
use Rattle.matching_state.proofs.matched.Matched.exchange.Goals.{After-width-width, After-put_in_order}
use Rattle.matching_state.proofs.matched.Matched.exchange.Given.{Over}

within : (g : Over) (c : After-width-width g) → c.args.into < length c.self.inside.problem.now.lines
within g c = subst (λ (s : Chosen). c.args.into < length s.problem.lines) (sym c.self.view_is) c.requires.within

exposed : (g : Over) (c : After-width-width g) → IsExposed g.F.Field.scalars c.self.inside.problem.now c.self.inside.set c.args.into
exposed g c = subst (λ (s : Chosen). IsExposed g.F.Field.scalars s.problem s.set c.args.into) (sym c.self.view_is) c.requires.exposed

support : (g : Over) (c : After-width-width g) → InSupport g.F.Field.scalars c.self.inside.problem.now c.self.inside.set c.args.into c.args.out
support g c = subst (λ (s : Chosen). InSupport g.F.Field.scalars s.problem s.set c.args.into c.args.out) (sym c.self.view_is) c.requires.support

pub take_out-requires : goal.take_out-requires
take_out-requires g c =
    let l = set_fits g.F.Field.scalars g.met.F.Field.lawful c.self.inside.problem.now c.self.inside.set c.self.inside.frame c.self.invariant in
    let f = width_is g.F.Field.scalars g.met.F.Field.lawful c.self.inside.problem.now c.self.inside.set c.self.inside.frame c.self.invariant c.width-width.ensures.frame in
    omega arith

pub put_line-requires-clause-within : goal.put_line-requires-clause-within
put_line-requires-clause-within g c = within g (goal.at.put_line-requires-clause-within g c).After-width-width

pub put_line-requires-clause-width : goal.put_line-requires-clause-width
put_line-requires-clause-width g c =
    c.take_out.ensures.width
    ∙ width_is g.F.Field.scalars g.met.F.Field.lawful c.self.inside.problem.now c.self.inside.set c.self.inside.frame c.self.invariant c.width-width.ensures.frame

pub put_line-requires-clause-room : goal.put_line-requires-clause-room
put_line-requires-clause-room g c =
    let w = (goal.at.put_line-requires-clause-room g c).After-width-width in
    let l = exchange_fits g.F.Field.scalars g.met.F.Field.lawful c.self.inside.problem.now c.self.inside.set c.self.inside.frame c.self.invariant c.args.out c.args.into
    (within g w) (exposed g w) (support g w) c.in_ok-rest.rest c.in_ok-next.next c.in_ok-rest.ensures c.in_ok-next.ensures in
    let e = c.len.ensures.value in
    omega arith

pub put_line-requires-clause-listed : goal.put_line-requires-clause-listed
put_line-requires-clause-listed g c =
    let w = (goal.at.put_line-requires-clause-listed g c).After-width-width in (
      c.in_ok-rest.rest,
      sym c.len.ensures.value,
      rest_listed g.F.Field.scalars g.met.F.Field.lawful c.self.inside.problem.now c.self.inside.set c.self.inside.frame c.self.invariant c.args.out c.args.into
          (within g w) (exposed g w) (support g w) c.in_ok-rest.rest c.in_ok-next.next c.in_ok-rest.ensures c.in_ok-next.ensures c.take_out.new.frame c.take_out.ensures.listed,
    )

pub put_in_order-requires : goal.put_in_order-requires
put_in_order-requires g c =
    let w = (goal.at.put_in_order-requires g c).After-width-width in
    let l = exchange_room g.F.Field.scalars g.met.F.Field.lawful c.self.inside.problem.now c.self.inside.set c.self.inside.frame c.self.invariant c.args.out c.args.into
    (within g w) (exposed g w) (support g w) c.in_ok-rest.rest c.in_ok-next.next c.in_ok-rest.ensures c.in_ok-next.ensures in
    let e = c.put_line.ensures.width in
    let t = c.take_out.ensures.width in
    let f = width_is g.F.Field.scalars g.met.F.Field.lawful c.self.inside.problem.now c.self.inside.set c.self.inside.frame c.self.invariant c.width-width.ensures.frame in
    omega arith

kept : (g : Over) (c : After-put_in_order g) → c.args.into < length c.self.inside.problem.now.lines →
    IsExposed g.F.Field.scalars c.self.inside.problem.now c.self.inside.set c.args.into →
    InSupport g.F.Field.scalars c.self.inside.problem.now c.self.inside.set c.args.into c.args.out →
    IsKept g.F.Field.scalars (state_of c.self.inside.problem.now c.in_ok-next.next c.put_in_order.new.frame)
kept g c l x s =
    exchanged_kept g.F.Field.scalars g.met.F.Field.lawful c.self.inside.problem.now c.self.inside.set c.self.inside.frame c.self.invariant c.args.out c.args.into l x s
    c.in_ok-rest.rest c.in_ok-next.next c.in_ok-rest.ensures c.in_ok-next.ensures c.take_out.new.frame c.put_line.new.frame c.put_in_order.new.frame
    c.take_out.ensures.listed
    (subst (λ n. Puts g.F.Field.scalars c.self.inside.problem.now c.args.into n c.take_out.new.frame c.put_line.new.frame) c.len.ensures.value c.put_line.ensures.listed)
    c.put_in_order.ensures.listed

pub invariant_of-self : goal.invariant_of-self
invariant_of-self g c =
    let w = (goal.at.invariant_of-self g c).After-width-width in
    kept g (goal.at.invariant_of-self g c).After-put_in_order (within g w) (exposed g w) (support g w)

pub returns-clause-independent : goal.returns-clause-independent
returns-clause-independent g c =
    let w = (goal.at.returns-clause-independent g c).After-width-width in
    (kept g (goal.at.returns-clause-independent g c).After-put_in_order (within g w) (exposed g w) (support g w)).independent

pub returns-clause-ok : goal.returns-clause-ok
returns-clause-ok g c =
    let w = (goal.at.returns-clause-ok g c).After-width-width in
    subst (λ (s : Chosen). IsSwap s.set c.args.out c.args.into c.in_ok-next.next) c.self.view_is
    (is_swap g.F.Field.scalars g.met.F.Field.lawful c.self.inside.problem.now c.self.inside.set c.self.inside.frame c.self.invariant c.args.out c.args.into
    (within g w) (exposed g w) (support g w) c.in_ok-rest.rest c.in_ok-next.next c.in_ok-rest.ensures c.in_ok-next.ensures)
