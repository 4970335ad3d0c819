use Rattle.std.proofs.Common.{◌≡◌, vec_len}
use Rattle.search.proofs.labels.Labels.new.Given as goal

abbrev pub invariant-loop-line : goal.invariant-loop-line
invariant-loop-line l = (vec_len l.labels ≡ l.line) × (vec_len l.outside ≡ l.line)
