use Rattle.linear_algebra.proofs.IndependenceLaws.{independent_no_longer, same_length_independent, same_length_spans}
use Rattle.linear_algebra.proofs.laws.exchange_lemma.Goals as goal

pub returns : goal.returns
returns c = record {
  no_longer = λ S d us vs F. independent_no_longer S F d us vs;
  independent = λ S d us vs F. same_length_independent S F d us vs;
  spans = λ S d us vs F. same_length_spans S F d us vs;
}
