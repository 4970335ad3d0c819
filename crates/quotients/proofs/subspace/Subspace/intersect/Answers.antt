use Rattle.linear_algebra.specs.Spans.{InSpan}
use Rattle.quotients.specs.Subspaces.{HasElements}
use Rattle.quotients.proofs.Results.{if_ok}
use Rattle.quotients.proofs.Walks.{meets_as}
use Rattle.quotients.proofs.subspace.Subspace.intersect.Goals as goal

pub returns-clause-meets : goal.returns-clause-meets
returns-clause-meets g c =
    let S = g.F.Field.scalars in
    let vectors = c.in_ok-vectors.vectors in
    let us = c.args.self.now in
    let ws = c.args.other.now in
    if_ok c.spanned.result (λ s. HasElements S s (InSpan S c.width.result vectors.rows)) (λ s. HasElements S s (λ x. InSpan S us.width us.rows x × InSpan S us.width ws.rows x))
    (meets_as S c.width.result c.self.inside.basis c.other.inside.basis vectors us ws c.width.ensures c.self.view_is c.other.view_is c.in_ok-vectors.ensures) c.spanned.ensures.spans
