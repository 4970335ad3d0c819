use Rattle.std.proofs.Common.{◌≡◌, ◌≤◌, ◌⊎◌, ℕ, IsTrue, length}
use Rattle.edge_lists.specs.Occurrences.{count_all}
use Rattle.rotation_system.specs.Traces.{AreTraced, KeepsMarks, is_marked, unmarked}
use Rattle.rotation_system.proofs.FaceTraces.{IsOnWalk}
use Rattle.rotation_system.proofs.rotation.Rotation.trace_face.Given as goal

abbrev pub invariant-walk : goal.invariant-walk
invariant-walk l = record {
  long : length l.seen.items ≡ length l.initial.seen.items;
  kept : KeepsMarks l.initial.seen.items l.seen.items;
  begun : (l.at ≡ l.dart) ⊎ IsTrue (is_marked l.seen.items l.dart);
  held : 1 ≤ count_all l.at l.self.lists;
  walk : (n : ℕ) → AreTraced l.self.lists l.initial.seen.items n → IsOnWalk l.self.lists l.seen.items n l.dart l.at;
}

abbrev pub decreases-walk : goal.decreases-walk
decreases-walk l = unmarked l.seen.items
