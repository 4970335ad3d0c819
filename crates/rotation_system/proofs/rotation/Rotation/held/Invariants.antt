use Rattle.std.proofs.Common.{◌≡◌, ◌≤◌, ◌-◌, length}
use Rattle.std.specs.List.{range_with_len}
use Rattle.edge_lists.specs.Occurrences.{count_all, keep}
use Rattle.rotation_theory.specs.Darts.{dart}
use Rattle.rotation_system.proofs.rotation.Rotation.held.Given as goal

abbrev pub invariant-loop-edge : goal.invariant-loop-edge
invariant-loop-edge l = record {
  few : l.held ≤ l.edge;
  counted : l.held ≡ length (keep (λ e. 1 - count_all (dart e) l.self.lists) (range_with_len 0 l.edge));
}
