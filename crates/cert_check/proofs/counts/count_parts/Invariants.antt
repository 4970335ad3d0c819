use Rattle.std.proofs.Common.{◌≡◌, ◌<◌, ℕ, length, min, slice_index, take}
use Rattle.parity_lines.specs.Certificates.{parts_with}
use Rattle.cert_check.proofs.counts.count_parts.Given as goal

abbrev pub invariant-loop-i : goal.invariant-loop-i
invariant-loop-i l = record {
  long : length l.counts.items ≡ l.lines;
  counted : (m : ℕ) → m < l.lines → slice_index l.counts.items m ≡ min 2 (parts_with (take l.i l.parts) m);
}
