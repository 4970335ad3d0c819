use Rattle.std.proofs.Common.{◌≡◌, length}
use Rattle.search.proofs.guessing.problem_of_residues.Given as goal

abbrev pub invariant-loop-line : goal.invariant-loop-line
invariant-loop-line g l = record {
  dimension : l.residues.dimension ≡ l.problem.dimension;
  lines : length l.residues.lines ≡ l.line;
}
