use Rattle.std.proofs.Common.{sym, ap, ◌∙◌, subst}
use Rattle.echelon.specs.Grown.{Grows, SpansMore}
use Rattle.field_core.specs.Matrix.{Matrix}
use Rattle.linear_algebra.specs.Vectors.{AreVectors}
use Rattle.exchanges.proofs.GrownByRows.{grown_span}
use Rattle.parity_lines.specs.Problems.{vectors_at}
use Rattle.exchanges.proofs.span.basis_with.Goals as goal

pub insert_rows-requires-clause-width : goal.insert_rows-requires-clause-width
insert_rows-requires-clause-width g c = ap (λ (m : Matrix). m.width) c.in_ok-basis.ensures ∙ sym c.requires

pub insert_rows-requires-clause-vectors : goal.insert_rows-requires-clause-vectors
insert_rows-requires-clause-vectors g c = c.rank-rank.ensures.vectors

pub returns : goal.returns
returns g c =
    let S = g.F.Field.scalars in
    let p = c.args.state.now.problem in
    let M = c.args.state.now.set in
    let keep = c.args.keep.now.rows in
    let after = c.insert_rows.new.basis in
    let is = c.in_ok-basis.ensures in
    let e = c.in_ok-insert_rows.ensures in
    grown_span S g.met.F.Field.lawful p.dimension (vectors_at p M) keep after
    (subst (λ (m : Matrix). AreVectors S m.width m.rows) is c.rank-rank.ensures.vectors)
    (subst (λ d. AreVectors S d keep) c.requires c.len-kept.ensures.vectors)
    (subst (λ m. Grows m after) is e.grows) (subst (λ m. SpansMore S keep m after) is e.ok)
