use Rattle.std.proofs.Common.{◌-◌, length, ap, ◌∙◌, arith}
use Rattle.std.specs.List.{range_with_len}
use Rattle.edge_lists.specs.Occurrences.{count_all, keep}
use Rattle.rotation_theory.specs.Darts.{dart}
use Rattle.rotation_system.proofs.DartSteps.{held_more, held_none}
use Rattle.rotation_system.proofs.rotation.Rotation.held.Goals as goal

pub loop-edge-init : goal.loop-edge-init
loop-edge-init c = record { few = omega arith; counted = held_none (λ e. 1 - count_all (dart e) c.args.self.now.lists) }

pub loop-edge-preserved : goal.loop-edge-preserved
loop-edge-preserved c = record {
  few = omega (arith, c.held_at-held.ensures.few, c.loop-edge.invariant.few);
  counted = omega (
    arith,
    c.loop-edge.invariant.counted,
    c.held_at-held.ensures.value,
    held_more (λ e. 1 - count_all (dart e) c.args.self.now.lists) c.loop-edge.edge,
  );
}

pub returns-clause-value : goal.returns-clause-value
returns-clause-value c = c.loop-edge.invariant.counted ∙ ap (λ n. length (keep (λ e. 1 - count_all (dart e) c.args.self.now.lists)
    (range_with_len 0 n)))
    (omega (arith, c.edges-edge-end.ensures))
