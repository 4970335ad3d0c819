use Rattle.std.proofs.Common.{ap, sym, ◌∙◌, subst}
use Rattle.linear_algebra.specs.Vectors.{IsVector}
use Rattle.field_core.proofs.Values.{vector_of_values}
use Rattle.parity_lines.specs.Problems.{ParityProblem}
use Rattle.parity_lines.proofs.LinePairs.{pairs_of-push}
use Rattle.parity_lines.proofs.problem.Problem.push.Goals as goal

pub invariant_of-self-2 : goal.invariant_of-self-2
invariant_of-self-2 g c =
    let S = g.F.Field.scalars in
    let d = c.self.inside.dimension in
    let wide = sym (ap (λ (p : ParityProblem). p.dimension) c.self.view_is) in
    let vector = vector_of_values S g.F.Field.number g.met.F.Field.is_scalar in
    pairs_of-push S d c.self.inside.lines.items c.push.new.self.items (record { first = c.in_ok-copy_of.field-0; second = c.in_ok-copy_of-2.field-0 }) c.in_ok-push.ensures.items c.self.invariant (
      subst (IsVector S d) (sym c.in_ok-copy_of.ensures) (vector c.args.first.now d (c.requires.first_long ∙ wide)),
      subst (IsVector S d) (sym c.in_ok-copy_of-2.ensures) (vector c.args.second.now d (c.requires.second_long ∙ wide)),
    )
