use Rattle.std.proofs.Common.{◌∙◌}
use Rattle.cert_check.proofs.Judged.{judged_vectors, tight_told, slack_told}
use Rattle.cert_check.proofs.judging.verdict_by_bound.Goals as goal

pub halves-requires : goal.halves-requires
halves-requires g c =
    let answer = c.args.answer.now in
    let judged = c.requires.judged in record {
      width = judged.basis_is.width ∙ judged.width;
      vectors = judged_vectors g.F.Field.scalars c.args.problem.now answer.set answer.certificate.kernel answer.certificate.parts
          c.args.basis judged;
      within = judged.parts_within;
      disjoint = c.requires.disjoint;
    }

pub returns-then-bound-size : goal.returns-then-bound-size
returns-then-bound-size g c =
    let answer = c.args.answer.now in
    tight_told g.F.Field.scalars g.met.F.Field.lawful c.args.problem.now c.len-lines.ensures.problem answer.set answer.certificate.kernel
    answer.certificate.parts c.args.basis c.len.ensures.vectors c.requires.judged
    c.requires.covered c.requires.disjoint c.len-size.result c.len.result c.in_ok-halves.halves c.len-size.ensures.value c.len.ensures.value
    c.in_ok-halves.ensures.sum
    c.len-size.ensures.increasing c.len-parts.ensures.parts c.if-bound-size.true

pub returns : goal.returns
returns g c =
    let answer = c.args.answer.now in
    slack_told g.F.Field.scalars g.met.F.Field.lawful c.args.problem.now c.len-lines.ensures.problem answer.set answer.certificate.kernel
    answer.certificate.parts c.args.basis c.len.ensures.vectors c.requires.judged
    c.requires.covered c.requires.disjoint c.len-size.result c.len.result c.in_ok-halves.halves c.len-size.ensures.value c.len.ensures.value
    c.in_ok-halves.ensures.sum c.if-bound-size.false
