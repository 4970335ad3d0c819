use Rattle.std.proofs.Common.{true≢false, sym}
use Rattle.matching_state.proofs.Seen.{two_by_ratio, two_by_zero}
use Rattle.matching_state.proofs.matched.Matched.has_rank_two.Goals as goal

pub returns-in-Some : goal.returns-in-Some
returns-in-Some g c =
    let lead = c.in-Some.ensures in
    two_by_ratio g.F.Field.scalars g.met.F.Field.lawful c.args.self.now c.list-first.ensures.kept c.args.line c.requires c.list-first.result.now c.list-second.result.now c.list-first.ensures.combines c.list-second.ensures.combines
    c.in-Some.lead lead.1 lead.2 g.F.Field.number g.met.F.Field.is_scalar c.ratio_from.result c.is_none.result c.ratio_from.ensures c.is_none.ensures

pub returns-in-None : goal.returns-in-None
returns-in-None g c =
    let none = two_by_zero g.F.Field.scalars g.met.F.Field.lawful c.args.self.now c.list-first.ensures.kept c.args.line c.requires c.list-first.result.now c.list-second.result.now c.list-first.ensures.combines c.list-second.ensures.combines
    c.in-None.ensures in
    (λ h. absurd (true≢false (sym h)), λ r. absurd (none r))
