use Rattle.std.proofs.Common.{ℕ, ◌<◌, get_or}
use Rattle.exchanges.specs.Offers.{OffersNothing}
use Rattle.exchanges.proofs.offer.offer_along.Given as goal

abbrev pub invariant-loop-i : goal.invariant-loop-i
invariant-loop-i g l = (k : ℕ) → k < l.i → OffersNothing g.F.Field.scalars l.state.problem l.basis.rows l.target l.state.set
    (get_or l.target k 0)
