use Rattle.std.proofs.Common.{◌≡◌, ◌≤◌, take}
use Rattle.rotation_theory.specs.CyclicLists.{empties}
use Rattle.rotation_system.proofs.rotation.Rotation.empties.Given as goal

abbrev pub invariant-loop-vertex : goal.invariant-loop-vertex
invariant-loop-vertex l = record { few : l.empty ≤ l.vertex; counted : l.empty ≡ empties (take l.vertex l.self.lists) }
