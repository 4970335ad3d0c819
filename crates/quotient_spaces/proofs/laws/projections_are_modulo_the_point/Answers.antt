use Rattle.quotient_spaces.proofs.ProjectionLaws.{independent_to_projections, independent_from_projections, span_to_projections, span_from_projections, rank_over-projections}
use Rattle.quotient_spaces.proofs.laws.projections_are_modulo_the_point.Goals as goal

pub returns : goal.returns
returns c = record {
  independent = λ S d p i vs ws F h k m a. (independent_to_projections S F d p i h k vs ws m a, independent_from_projections S F d p i h k vs ws m a);
  spans = λ S d p i vs ws x y F h k m n a b. (span_to_projections S F d p i h k vs ws x y m n a b, span_from_projections S F d p i h k vs ws x y m n a b);
  ranks = λ S d p i us vs us' vs' F h k. rank_over-projections S F d p i h k us vs us' vs';
}
