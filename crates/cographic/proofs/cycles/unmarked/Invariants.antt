use Rattle.std.proofs.Common.{◌≡◌, ℕ, List}
use Rattle.std.specs.List.{range_with_len}
use Rattle.edge_lists.specs.Occurrences.{without}
use Rattle.cographic.specs.Cycles.{MarkMembers}
use Rattle.cographic.proofs.cycles.unmarked.Given as goal

abbrev pub invariant-loop-edge : goal.invariant-loop-edge
invariant-loop-edge l = (T : List ℕ) → MarkMembers T l.marks → l.list ≡ without T (range_with_len 0 l.edge)
