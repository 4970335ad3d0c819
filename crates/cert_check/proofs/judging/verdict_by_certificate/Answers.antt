use Rattle.std.proofs.Common.{arith}
use Rattle.cert_check.proofs.Judged.{kernel_dependent, kernel_independent}
use Rattle.cert_check.proofs.judging.verdict_by_certificate.Goals as goal

pub returns-then-rank-len : goal.returns-then-rank-len
returns-then-rank-len g c =
    let few = c.if-rank-len.true in
    let rank = c.rank.ensures.value in
    let long = c.len.ensures.value in (
      c.requires.independent,
      kernel_dependent g.F.Field.scalars g.met.F.Field.lawful c.args.problem.now c.args.answer.now.certificate.kernel c.in_ok-basis.basis
          c.requires.width c.len.ensures.vectors c.in_ok-basis.ensures (omega arith),
    )

pub verdict_by_parts-requires : goal.verdict_by_parts-requires
verdict_by_parts-requires g c =
    let enough = c.if-rank-len.false in
    let rank = c.rank.ensures.value in
    let long = c.len.ensures.value in record {
      set_within = c.requires.set;
      parts_within = c.requires.parts;
      width = c.requires.width;
      independent = record {
        of_set = c.requires.independent;
        of_kernel = kernel_independent g.F.Field.scalars g.met.F.Field.lawful c.args.problem.now c.args.answer.now.certificate.kernel
            c.in_ok-basis.basis c.requires.width c.len.ensures.vectors c.in_ok-basis.ensures (omega arith);
      };
      basis_is = c.in_ok-basis.ensures;
    }
