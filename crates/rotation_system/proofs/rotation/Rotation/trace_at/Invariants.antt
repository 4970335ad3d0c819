use Rattle.std.proofs.Common.{◌≡◌, ◌+◌, ◌<◌, ◌≤◌, ℕ, IsTrue, get_or, length}
use Rattle.rotation_system.specs.Traces.{AreTraced, KeepsMarks, is_marked}
use Rattle.rotation_system.proofs.rotation.Rotation.trace_at.Given as goal

abbrev pub invariant-loop-i : goal.invariant-loop-i
invariant-loop-i l = record {
  long : length l.seen.items ≡ length l.initial.seen.items;
  few : l.traced ≤ l.i;
  traced : (n : ℕ) → AreTraced l.self.lists l.initial.seen.items n → AreTraced l.self.lists l.seen.items (n + l.traced);
  kept : KeepsMarks l.initial.seen.items l.seen.items;
  marked : (k : ℕ) → k < l.i → IsTrue (is_marked l.seen.items (get_or l.darts k 0));
}
