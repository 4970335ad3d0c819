use Rattle.std.proofs.Common.{◌<◌, sym, subst}
use Rattle.coordinates.proofs.Swaps.{swap_basis, swap_combines}
use Rattle.coordinates.proofs.laws.two_vectors_change_places.Goals as goal

pub returns : goal.returns
returns c = record {
  basis = λ S d vs i j F b k l. swap_basis S F d vs i j b (subst (λ n. i < n) (sym b.length_is) k) (subst (λ n. j < n) (sym b.length_is) l);
  coordinates = λ S d vs i j cs x F b k l. swap_combines S F d vs i j cs x b.vectors (subst (λ n. i < n) (sym b.length_is) k) (subst (λ n. j < n) (sym b.length_is) l);
}
