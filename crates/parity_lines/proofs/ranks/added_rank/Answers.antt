use Rattle.std.proofs.Common.{◌-◌, ap, ap₂, ◌∙◌}
use Rattle.linear_algebra.specs.Ranks.{rank_over}
use Rattle.parity_lines.specs.Problems.{vectors_at}
use Rattle.echelon.proofs.Growing.{added_is_rank}
use Rattle.parity_lines.proofs.ranks.added_rank.Goals as goal

pub returns-clause-rank : goal.returns-clause-rank
returns-clause-rank g c =
    let S = g.F.Field.scalars in
    let before = c.args.basis.now in
    let vs = vectors_at c.args.problem.now c.args.part.now in
    ap₂ (λ m n. m - n) c.rank.ensures.value c.rank-kept.ensures.value
    ∙ added_is_rank S g.met.F.Field.lawful vs before c.insert_lines-outcome.new.basis c.rank-kept.ensures.vectors c.rank-kept.ensures.independent c.rank.ensures.vectors c.rank.ensures.independent
    c.in_ok-outcome.ensures.grows c.in_ok-outcome.ensures.ok
    ∙ ap (λ d. rank_over S d before.rows vs) c.requires.width
