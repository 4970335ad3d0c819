use Rattle.std.proofs.Common.{◌<◌, sym, subst}
use Rattle.coordinates.proofs.Carries.{basis-carried, combines-carried}
use Rattle.coordinates.proofs.carrying.a_vector_is_carried.Goals as goal

pub returns : goal.returns
returns c = record {
  basis = λ S d vs from to F b l m.
      basis-carried S F d vs from to b (subst (λ n. from < n) (sym b.length_is) l) (subst (λ n. to < n) (sym b.length_is) m);
  coordinates = λ S d vs from to cs x F b l m.
      combines-carried S F d vs from to b (subst (λ n. from < n) (sym b.length_is) l) (subst (λ n. to < n) (sym b.length_is) m) cs x;
}
