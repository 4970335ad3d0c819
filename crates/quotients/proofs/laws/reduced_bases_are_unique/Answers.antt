use Rattle.quotients.proofs.ReducedBases.{reduced_independent}
use Rattle.quotients.proofs.Unique.{reduced_unique}
use Rattle.quotients.proofs.laws.reduced_bases_are_unique.Goals as goal

pub returns : goal.returns
returns c = record {
  unique = λ S d us vs F r s e. reduced_unique S F d us vs r s e;
  independent = λ S d us F r. reduced_independent S F d us r;
}
