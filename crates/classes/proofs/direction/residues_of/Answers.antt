use Rattle.std.proofs.Common.{sym, ap, ◌∙◌}
use Rattle.field_core.specs.Matrix.{Matrix}
use Rattle.parity_lines.specs.Problems.{ParityProblem}
use Rattle.classes.proofs.direction.residues_of.Goals as goal

pub residue-requires : goal.residue-requires
residue-requires g c =
    c.first.ensures.long ∙ ap (λ (q : ParityProblem). q.dimension) c.problem-problem.ensures ∙ sym (ap (λ (m : Matrix). m.width) c.requires.basis)

pub residue-requires-2 : goal.residue-requires-2
residue-requires-2 g c =
    c.second.ensures.long ∙ ap (λ (q : ParityProblem). q.dimension) c.problem-problem.ensures ∙ sym (ap (λ (m : Matrix). m.width) c.requires.basis)

pub returns : goal.returns
returns g c = record {
  first = rw (c.requires.basis, c.first.ensures.value, c.problem-problem.ensures) at c.in_ok-first.ensures;
  second = rw (c.requires.basis, c.second.ensures.value, c.problem-problem.ensures) at c.in_ok-second.ensures;
}
