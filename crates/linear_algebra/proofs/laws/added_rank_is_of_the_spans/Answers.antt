use Rattle.linear_algebra.proofs.RankLaws.{rank-append_le, rank_over_less, added_same, spans_within}
use Rattle.linear_algebra.proofs.laws.added_rank_is_of_the_spans.Goals as goal

pub returns : goal.returns
returns c = record {
  at_most = λ S d us vs F. rank-append_le S F d us vs;
  same = λ S d us ws vs xs F h k l m e f. added_same S F d us ws vs xs h k l m
      (spans_within S F d us ws h (λ x. (e x).0)) (spans_within S F d ws us k (λ x. (e x).1))
      (spans_within S F d vs xs l (λ x. (f x).0)) (spans_within S F d xs vs m (λ x. (f x).1));
  less = λ S d us ws vs F. rank_over_less S F d us ws vs;
}
