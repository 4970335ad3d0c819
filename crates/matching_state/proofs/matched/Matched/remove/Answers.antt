use Rattle.std.proofs.Common.{◌≢◌, ℕ, sym, subst, arith}
use Rattle.std.specs.Prelude.{◌↔◌}
use Rattle.std.specs.List.{Contains}
use Rattle.matching_state.specs.Bases.{IsKept}
use Rattle.matching_state.specs.Chosen.{Chosen}
use Rattle.matching_state.proofs.Moves.{set_fits, state_of, taken_kept, width_is}
use Rattle.matching_state.proofs.matched.Matched.remove.Goals as goal
use Rattle.matching_state.proofs.matched.Matched.remove.Goals.{After-take_out}
use Rattle.matching_state.proofs.matched.Matched.remove.Given.{Over}

pub take_out-requires : goal.take_out-requires
take_out-requires g c =
    let l = set_fits g.F.Field.scalars g.met.F.Field.lawful c.self.inside.problem.now c.self.inside.set c.self.inside.frame c.self.invariant in
    let f = width_is g.F.Field.scalars g.met.F.Field.lawful c.self.inside.problem.now c.self.inside.set c.self.inside.frame c.self.invariant c.width-width.ensures.frame in
    omega arith

kept : (g : Over) (c : After-take_out g) → IsKept g.F.Field.scalars (state_of c.self.inside.problem.now c.in_ok-rest.rest c.take_out.new.frame)
kept g c =
    taken_kept g.F.Field.scalars g.met.F.Field.lawful c.self.inside.problem.now c.self.inside.set c.self.inside.frame c.self.invariant c.args.line
    c.in_ok-rest.rest c.take_out.new.frame (subst (λ (s : Chosen). Contains s.set c.args.line) (sym c.self.view_is) c.requires) c.in_ok-rest.ensures c.take_out.ensures.listed

pub invariant_of-self : goal.invariant_of-self
invariant_of-self g c = kept g (goal.at.invariant_of-self g c).After-take_out

pub returns-clause-independent : goal.returns-clause-independent
returns-clause-independent g c = (kept g (goal.at.returns-clause-independent g c).After-take_out).independent

pub returns-clause-ok : goal.returns-clause-ok
returns-clause-ok g c =
    subst (λ (s : Chosen). (l : ℕ) → Contains c.in_ok-rest.rest l ↔ (Contains s.set l × (l ≢ c.args.line))) c.self.view_is c.in_ok-rest.ensures.1
