use Rattle.coordinates.proofs.Units.{units_basis, units_combine}
use Rattle.coordinates.proofs.laws.unit_vectors_are_a_basis.Goals as goal

pub returns : goal.returns
returns c = record {
  basis = λ S d F. units_basis S F d;
  coordinates = λ S d v F. units_combine S F d v;
}
