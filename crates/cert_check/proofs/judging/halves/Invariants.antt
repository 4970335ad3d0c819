use Rattle.std.proofs.Common.{◌≡◌, take}
use Rattle.parity_lines.specs.Certificates.{halves_over}
use Rattle.cert_check.proofs.judging.halves.Given as goal

abbrev pub invariant-loop-i : goal.invariant-loop-i
invariant-loop-i g l = record {
  same : l.basis ≡ l.initial.basis;
  summed : l.total ≡ halves_over g.F.Field.scalars l.problem l.initial.basis.rows (take l.i l.parts);
}
