use Rattle.std.proofs.Common.{◌<◌}
use Rattle.small_fields.specs.Laws.Inverses.{Leaves}
use Rattle.small_fields.proofs.residue.inverse_modulo.Given as goal

abbrev pub invariant-loop-rest : goal.invariant-loop-rest
invariant-loop-rest l = record {
  leaves : Leaves l.order l.value l.factor l.rest;
  above : 0 < l.rest;
  below : l.rest < l.order;
  small : l.factor < l.order;
}

abbrev pub decreases-loop-rest : goal.decreases-loop-rest
decreases-loop-rest l = l.rest
