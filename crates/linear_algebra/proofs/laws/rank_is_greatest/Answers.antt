use Rattle.vector_spaces.proofs.Members.{contains-In, In-contains}
use Rattle.linear_algebra.specs.Ranks.{selections}
use Rattle.linear_algebra.proofs.Deciding.{is_independent-decides}
use Rattle.linear_algebra.proofs.Selections.{In-selections, In_selections-from, length_le-rank, rank_reached}
use Rattle.linear_algebra.proofs.laws.rank_is_greatest.Goals as goal

pub returns : goal.returns
returns c = record {
  decided = is_independent-decides;
  reached = λ S d vs. let r = rank_reached S d vs in (r.0, contains-In (selections vs) r.0 (In-selections r.0 vs r.1), r.2, r.3);
  greatest = λ S d us vs h i. length_le-rank S d us vs (In_selections-from us vs (In-contains (selections vs) us h)) i;
}
