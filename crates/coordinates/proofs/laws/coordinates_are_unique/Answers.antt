use Rattle.coordinates.proofs.Coordinates.{basis_spans, one_list}
use Rattle.coordinates.proofs.laws.coordinates_are_unique.Goals as goal

pub returns : goal.returns
returns c = record {
  exist = λ S d vs x F b. basis_spans S F d vs b x;
  unique = λ S d vs x cs ds F b. one_list S F d vs b x cs ds;
}
