use Rattle.std.proofs.Common.{◌≡◌, ℕ, List, IfOk, sym, ap, ◌∙◌, subst}
use Rattle.linear_algebra.specs.Vectors.{AreVectors}
use Rattle.linear_algebra.specs.Ranks.{rank_over}
use Rattle.parity_lines.specs.Problems.{vectors_at}
use Rattle.parity_lines.proofs.Border.{vectors_at-vectors}
use Rattle.echelon.proofs.Growing.{over_basis}
use Rattle.parity_lines.proofs.ranks.rank_over.Goals as goal

pub returns : goal.returns
returns g c =
    let S = g.F.Field.scalars in
    let p = c.args.problem.now in
    let kernel = c.args.kernel.now in
    let basis = c.in_ok-basis.basis in
    let vs = vectors_at p c.args.part.now in
    let vs_in = subst (λ d. AreVectors S d vs) (sym c.requires.width) (vectors_at-vectors S p c.len-lines.ensures.problem c.args.part.now c.requires.within) in
    let at_width : (rows : List (List ℕ)) → rank_over S kernel.width rows vs ≡ rank_over S p.dimension rows vs = λ rows. ap (λ d. rank_over S d rows vs) c.requires.width in
    subst (λ n. IfOk c.added_rank.result (λ r. r ≡ n))
    (sym (at_width basis.rows) ∙ over_basis S g.met.F.Field.lawful kernel basis vs c.in_ok-basis.ensures vs_in ∙ at_width kernel.rows)
    c.added_rank.ensures.rank
