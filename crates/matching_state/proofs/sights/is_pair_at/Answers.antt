use Rattle.std.proofs.Common.{◌+◌, ◌*◌}
use Rattle.std.specs.Prelude.{slice_index}
use Rattle.matching_state.proofs.PairTests.{pair_read}
use Rattle.matching_state.proofs.sights.is_pair_at.Goals as goal

pub returns : goal.returns
returns g c =
    pair_read g.F.PartialEq.eq g.F.Field.number g.met.F.Field.equals g.F.Field.scalars.zero (slice_index c.args.row.now (2 * c.args.i)) (slice_index c.args.row.now (2 * c.args.i + 1))
    c.get.result c.get-2.result c.zero.result c.zero-2.result c.ne.result c.ne.ensures c.zero.ensures c.zero-2.ensures c.get.ensures c.get-2.ensures
