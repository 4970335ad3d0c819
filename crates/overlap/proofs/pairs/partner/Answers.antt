use Rattle.std.proofs.Common.{◌≡◌, length, sym, ◌∙◌, subst, arith}
use Rattle.std.proofs.lemmas.Bool.{false≢true}
use Rattle.overlap.proofs.Prefixes.{one_more, all_of_them}
use Rattle.overlap.specs.Candidates.{DoOverlap}
use Rattle.overlap.proofs.pairs.partner.Goals as goal

pub loop-second-preserved : goal.loop-second-preserved
loop-second-preserved g c =
    let S = g.F.Field.scalars in
    let x = c.args.first.now in
    let wide : length x.residue ≡ c.in_ok-multiples.multiples.width = sym (c.in_ok-multiples.ensures.width ∙ c.as_slice.ensures.len) in
    one_more (λ y. ¬ (DoOverlap S (length x.residue) x y)) c.args.others.now c.loop-second.second-index c.second-item.result c.loop-second-test.true
    c.second-item.is c.loop-second.invariant
    (λ o. false≢true (sym c.if-branch.false ∙ c.in_ok-do_overlap.ensures.1 (subst (λ d. DoOverlap S d x c.second-item.result) wide o)))

pub returns : goal.returns
returns g c =
    let x = c.args.first.now in
    all_of_them (λ y. ¬ (DoOverlap g.F.Field.scalars (length x.residue) x y)) c.args.others.now c.loop-second.second-index (omega arith)
    c.loop-second.invariant
