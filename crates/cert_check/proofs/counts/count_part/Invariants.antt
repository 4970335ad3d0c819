use Rattle.std.proofs.Common.{◌≡◌, ◌+◌, ◌<◌, ℕ, length, min, slice_index, take}
use Rattle.cert_check.specs.Counts.{once_in}
use Rattle.cert_check.proofs.counts.count_part.Given as goal

abbrev pub invariant-loop-i : goal.invariant-loop-i
invariant-loop-i l = (m : ℕ) → m < length l.initial.counts
    → slice_index l.counts m ≡ min 2 (slice_index l.initial.counts m + once_in (take l.i l.part) m)
