use Rattle.std.proofs.Common.{◌≡◌, ◌<◌, ℕ, IsTrue, length, take}
use Rattle.std.specs.Prelude.{◌↔◌}
use Rattle.vector_spaces.proofs.Members.{In}
use Rattle.cographic.specs.Cycles.{is_marked}
use Rattle.cographic.proofs.marks.Marks.mark_all.Given as goal

abbrev pub invariant-loop-i : goal.invariant-loop-i
invariant-loop-i l = record {
  long : length l.self ≡ length l.initial.self;
  members : (x : ℕ) → x < length l.self → IsTrue (is_marked l.self x) ↔ In x (take l.i l.list);
}
