use Rattle.std.proofs.Common.{◌≡◌, ◌*◌, ◌<◌, ◌≤◌, [], ℕ, IsTrue, get_or, length}
use Rattle.edge_lists.specs.Occurrences.{count}
use Rattle.rotation_system.specs.Traces.{AreTraced, is_marked}
use Rattle.rotation_system.proofs.rotation.Rotation.faces.Given as goal

abbrev pub invariant-loop-vertex : goal.invariant-loop-vertex
invariant-loop-vertex l = record {
  long : length l.seen.items ≡ 2 * length l.self.ends;
  traced : AreTraced l.self.lists l.seen.items l.traced;
  marked : (v : ℕ) → v < l.vertex → (d : ℕ) → 1 ≤ count d (get_or l.self.lists v []) → IsTrue (is_marked l.seen.items d);
}
