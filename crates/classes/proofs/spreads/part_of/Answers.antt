use Rattle.std.proofs.Common.{◌+◌, ◌*◌, ◌<◌, List, ℕ, length, map, arith}
use Rattle.std.proofs.lemmas.List.Elements.{All-get_or}
use Rattle.field_core.proofs.Values.{vector_of_values}
use Rattle.classes.proofs.SpreadParts.{IsPartBelow, entry_is, part_all, part_none, part_passed, part_taken}
use Rattle.classes.proofs.spreads.part_of.Goals as goal
use Rattle.classes.proofs.spreads.part_of.Goals.{then-labels-line, else-labels-line}

pub loop-i-init : goal.loop-i-init
loop-i-init g c L =
    let S = g.F.Field.scalars in
    let p = c.args.problem.now in
    let M = c.args.set.now in
    let cs : List ℕ = map g.F.Field.number c.args.coordinates.now in
    rw (c.in_ok-part.ensures, c.dimension.ensures) (part_none S L p c.args.labels.now c.args.label M cs)

pub add_line-requires-clause-within : goal.add_line-requires-clause-within
add_line-requires-clause-within g c = let p = c.args.problem.now in
    rw c.at-line.ensures (All-get_or (λ m. m < length p.lines) c.args.set.now c.loop-i.i 0 (omega arith) c.requires.within)

pub add_line-requires-clause-long : goal.add_line-requires-clause-long
add_line-requires-clause-long g c = (c.loop-i.invariant g.met.F.Field.lawful).is_vector.length_is

pub loop-i-preserved : goal.loop-i-preserved
loop-i-preserved g c L =
    let S = g.F.Field.scalars in
    let f = g.F.Field.number in
    let p = c.args.problem.now in
    let M = c.args.set.now in
    let labels = c.args.labels.now in
    let label = c.args.label in
    let xs = c.args.coordinates.now in
    let cs : List ℕ = map f xs in
    let i = c.loop-i.i in
    let P = c.len-lines.ensures.problem in
    let v = vector_of_values S f g.met.F.Field.is_scalar xs (2 * length M) c.requires.long in
    elim c.if-labels-line.branch as (λ _. IsPartBelow S L p labels label M cs (i + 1) c.if-labels-line.part) [
      | then-labels-line w ↦ part_taken S L p labels label M cs P c.requires.within v i (omega arith) c.loop-i.part (c.loop-i.invariant L)
          c.at-line.result (f w.index-coordinates-i.result)
          (f w.index-coordinates-i-then-labels-line.result) c.if-labels-line.part c.at-line.ensures
          (entry_is f xs (2 * i) w.index-coordinates-i.result w.index-coordinates-i.is (omega arith))
          (entry_is f xs (2 * i + 1) w.index-coordinates-i-then-labels-line.result w.index-coordinates-i-then-labels-line.is (omega arith))
          (rw c.at-line.ensures at w.if-labels-line.true) (rw w.part-is w.add_line.ensures)
      | else-labels-line w ↦ rw w.part-is
          (part_passed S L p labels label M cs P c.requires.within v i (omega arith) c.loop-i.part (c.loop-i.invariant L)
          (rw c.at-line.ensures at w.if-labels-line.false))
    ]

pub returns : goal.returns
returns g c L = part_all g.F.Field.scalars L c.args.problem.now c.args.labels.now c.args.label c.args.set.now
    (map g.F.Field.number c.args.coordinates.now) c.loop-i.i c.loop-i.part (omega arith) (c.loop-i.invariant L)
