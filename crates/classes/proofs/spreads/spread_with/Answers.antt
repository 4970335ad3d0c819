use Rattle.std.proofs.Common.{List, ℕ, get_or, map, below_more, arith}
use Rattle.std.proofs.lemmas.List.Elements.{Contains-get_or}
use Rattle.parity_lines.proofs.LinesPassed.{each_line}
use Rattle.classes.proofs.SpreadTies.{AreClose, first_in, not_all_close, second_in}
use Rattle.classes.proofs.spreads.spread_with.Goals as goal

pub loop-i-preserved : goal.loop-i-preserved
loop-i-preserved g c L =
    let S = g.F.Field.scalars in
    let f = g.F.Field.number in
    let p = c.args.state.now.problem in
    let M = c.args.state.now.set in
    let H = c.args.lines.now in
    let labels = c.args.labels.now in
    let o : List ℕ = map f c.args.o.now in
    below_more (λ k. AreClose S L p labels c.args.label o M (get_or H k 0)) c.loop-i.i (c.loop-i.invariant L) (
      rw (c.in_default.is, c.first.ensures.value, c.problem-problem.ensures, c.at-line.ensures) at (c.in_ok-found.ensures L),
      rw (c.in_default-2.is, c.second.ensures.value, c.problem-problem.ensures, c.at-line.ensures) at (c.in_ok-found-2.ensures L),
    )

pub unreachable-requires : goal.unreachable-requires
unreachable-requires g c =
    let S = g.F.Field.scalars in
    let p = c.args.state.now.problem in
    let M = c.args.state.now.set in
    let H = c.args.lines.now in
    let L = g.met.F.Field.lawful in
    let o : List ℕ = map g.F.Field.number c.args.o.now in
    let P = rw c.problem-problem.ensures at c.len-lines.ensures.problem in
    not_all_close S L p P c.args.labels.now c.args.label o M H c.requires.within c.requires.large
    (each_line (λ m. AreClose S L p c.args.labels.now c.args.label o M m) H c.loop-i.i (omega arith) (c.loop-i.invariant L))

pub returns-in-Some : goal.returns-in-Some
returns-in-Some g c L =
    let S = g.F.Field.scalars in
    let f = g.F.Field.number in
    let p = c.args.state.now.problem in
    let H = c.args.lines.now in
    let m = c.at-line.result in
    let v : List ℕ = map f c.first.result.now in
    (rw c.in-Some.is at (c.in_ok-found.ensures L)) H (c.requires.o_in L)
    (first_in S L p H m v (rw c.at-line.ensures (Contains-get_or H c.loop-i.i 0 (omega arith)))
    (rw c.problem-problem.ensures at c.first.ensures.value))

pub returns-in-Some-2 : goal.returns-in-Some-2
returns-in-Some-2 g c L =
    let S = g.F.Field.scalars in
    let f = g.F.Field.number in
    let p = c.args.state.now.problem in
    let H = c.args.lines.now in
    let m = c.at-line.result in
    let v : List ℕ = map f c.second.result.now in
    (rw c.in-Some-2.is at (c.in_ok-found-2.ensures L)) H (c.requires.o_in L)
    (second_in S L p H m v (rw c.at-line.ensures (Contains-get_or H c.loop-i.i 0 (omega arith)))
    (rw c.problem-problem.ensures at c.second.ensures.value))
