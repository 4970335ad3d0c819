use Rattle.std.proofs.Common.{List, ℕ, Option, MatchOption, subst}
use Rattle.classes.specs.Supports.{HasSupport}
use Rattle.matching_state.specs.LinePlaces.{IsExposed}
use Rattle.classes.proofs.supports.supports_meet.Goals as goal

pub returns : goal.returns
returns g c =
    let S = g.F.Field.scalars in
    let p = c.args.state.now.problem in
    let M = c.args.state.now.set in
    let Told : ℕ → Option (List ℕ) → Type 0 = λ e found. MatchOption found (¬ (IsExposed S p M e)) (HasSupport S p M e) in
    let a = subst (Told c.args.first) c.in-Some-Some.is-0 c.in_ok-support_of.ensures in
    let b = subst (Told c.args.second) c.in-Some-Some.is-1 c.in_ok-other.ensures in (
      λ t. (let r = c.meets.ensures.0 t in (r.0, (a.lines r.0).0 r.1, (b.lines r.0).0 r.2)),
      λ r. c.meets.ensures.1 (r.0, (a.lines r.0).1 r.1, (b.lines r.0).1 r.2),
    )
