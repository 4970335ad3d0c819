use Rattle.quotient_spaces.proofs.Projections.{projection-vector, projection_exists, projection_unique, projection_lifted}
use Rattle.quotient_spaces.proofs.laws.projections_are_unique.Goals as goal

pub returns : goal.returns
returns c = record {
  exists = λ S d p i v F h k m. let r = projection_exists S F d p i h k v m in (r.0, r.1, projection-vector S F d p i h k v r.0 m r.1);
  unique = λ S d p i v w u F h k. projection_unique S F d p i h k v w u;
  lifted = λ S d p i w F h k. projection_lifted S F d p i h k w;
}
