use Rattle.std.proofs.lemmas.Bool.{false≢true}
use Rattle.classes.proofs.DirectionLaws.{direction_both, direction_first, direction_free, direction_inside, direction_second}
use Rattle.classes.proofs.direction.direction_of.Goals as goal

pub returns-in-None-second : goal.returns-in-None-second
returns-in-None-second g c L =
    let S = g.F.Field.scalars in
    let p = c.args.state.now.problem in
    let P = rw c.problem-problem.ensures at c.len-lines.ensures.problem in
    direction_inside S L p P c.args.state.now.set c.set-set.ensures.independent c.args.line c.requires.line _ _ c.in_ok-first_residue.ensures
    c.in-None.ensures c.in-None-second.ensures

pub returns-in-Some-second : goal.returns-in-Some-second
returns-in-Some-second g c L =
    let S = g.F.Field.scalars in
    let p = c.args.state.now.problem in
    let P = rw c.problem-problem.ensures at c.len-lines.ensures.problem in
    direction_second S L p P c.args.state.now.set c.set-set.ensures.independent c.args.line c.requires.line _ _ c.in_ok-first_residue.ensures
    c.in-Some-second.row c.in-None.ensures c.in-Some-second.ensures

pub returns-in-None-second-2 : goal.returns-in-None-second-2
returns-in-None-second-2 g c L =
    let S = g.F.Field.scalars in
    let p = c.args.state.now.problem in
    let P = rw c.problem-problem.ensures at c.len-lines.ensures.problem in
    direction_first S L p P c.args.state.now.set c.set-set.ensures.independent c.args.line c.requires.line _ _ c.in_ok-first_residue.ensures
    c.in-Some.row c.in-Some.ensures c.in-None-second-2.ensures

pub returns-then-are_same : goal.returns-then-are_same
returns-then-are_same g c L =
    let S = g.F.Field.scalars in
    let p = c.args.state.now.problem in
    let P = rw c.problem-problem.ensures at c.len-lines.ensures.problem in
    direction_both S L p P c.args.state.now.set c.set-set.ensures.independent c.args.line c.requires.line _ _ c.in_ok-first_residue.ensures
    c.in-Some.row c.in-Some.ensures c.in-Some-second-2.other c.in-Some-second-2.ensures
    (rw (c.as_slice.ensures.value, c.as_slice-in-Some-second-2.ensures.value) at (c.are_same.ensures.0 c.if-are_same.true))

pub returns-else-are_same : goal.returns-else-are_same
returns-else-are_same g c L =
    let S = g.F.Field.scalars in
    let p = c.args.state.now.problem in
    let P = rw c.problem-problem.ensures at c.len-lines.ensures.problem in
    direction_free S L p P c.args.state.now.set c.set-set.ensures.independent c.args.line c.requires.line _ _ c.in_ok-first_residue.ensures
    c.in-Some.row c.in-Some.ensures c.in-Some-second-2.other c.in-Some-second-2.ensures
    (λ e. false≢true (rw c.if-are_same.false at
    (c.are_same.ensures.1 (rw (c.as_slice.ensures.value, c.as_slice-in-Some-second-2.ensures.value) e))))
