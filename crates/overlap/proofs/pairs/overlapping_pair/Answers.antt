use Rattle.std.proofs.Common.{All, MatchOption, length, subst, arith}
use Rattle.overlap.proofs.Prefixes.{one_more, all_of_them}
use Rattle.overlap.specs.Candidates.{DoOverlap, HasPartner}
use Rattle.overlap.proofs.pairs.overlapping_pair.Goals as goal

pub loop-first-preserved : goal.loop-first-preserved
loop-first-preserved g c =
    let S = g.F.Field.scalars in
    let xs = c.args.exposed.now in
    let x = c.first-item.result in
    one_more (λ x. All (λ y. ¬ (DoOverlap S (length x.residue) x y)) xs) xs c.loop-first.first-index x c.loop-first-test.true c.first-item.is
    c.loop-first.invariant
    (subst (λ found. MatchOption found (All (λ y. ¬ (DoOverlap S (length x.residue) x y)) xs) (HasPartner S x xs)) c.in_default.is
    c.in_ok-second.ensures)

pub returns : goal.returns
returns g c =
    let xs = c.args.exposed.now in
    all_of_them (λ x. All (λ y. ¬ (DoOverlap g.F.Field.scalars (length x.residue) x y)) xs) xs c.loop-first.first-index (omega arith)
    c.loop-first.invariant
