use Rattle.std.proofs.Common.{◌<◌, sym, subst}
use Rattle.coordinates.proofs.Pivots.{pivot_basis, pivot_combines}
use Rattle.coordinates.proofs.laws.a_vector_replaces_another.Goals as goal

pub returns : goal.returns
returns c = record {
  basis = λ S d vs i ts y F b l. pivot_basis S F d vs i ts y b (subst (λ n. i < n) (sym b.length_is) l);
  coordinates = λ S d vs i ts cs ds y x F b l. pivot_combines S F d vs i ts cs ds y x b.vectors (subst (λ n. i < n) (sym b.length_is) l);
}
