use Rattle.std.proofs.Common.{ℕ, List, All, ◌↔◌}
use Rattle.linear_algebra.specs.Scalars.{Scalars, IsField}
use Rattle.linear_algebra.specs.Vectors.{AreVectors}
use Rattle.linear_algebra.specs.Spans.{InSpan}
use Rattle.linear_algebra.proofs.RankLaws.{rank_of_independent, independent_of_rank, rank_le, rank_same, spans_within}
use Rattle.linear_algebra.proofs.laws.rank_is_of_the_span.Goals as goal

pub returns : goal.returns
returns c = record {
  independent = λ S d vs F h. (independent_of_rank S F d vs h, rank_of_independent S F d vs h);
  within = λ S d us vs F. rank_le S F d us vs;
  same = λ S d us vs F h k e. rank_same S F d us vs h k (spans_within S F d us vs h (λ x. (e x).0)) (spans_within S F d vs us k (λ x. (e x).1));
}
