use Rattle.std.proofs.Common.{◌≡◌, None, length, replicate, arith, subst}
use Rattle.linear_algebra.proofs.Coordinates.{space}
use Rattle.parity_lines.proofs.Border.{tuples_at}
use Rattle.classes.proofs.TableLaws.{empty_square, empty_table}
use Rattle.classes.proofs.table.Table.new.Goals as goal

pub invariant_of-result : goal.invariant_of-result
invariant_of-result g c =
    let S = g.F.Field.scalars in
    let L = g.met.F.Field.lawful in
    let p = c.args.problem.now in
    let n = length p.lines in
    empty_square (space S L p.dimension) (tuples_at S L p) n (record { live = c.in_ok-live.live.items; rows = c.loop-line.rows.items })
    (subst (λ k. c.loop-line.rows.items ≡ replicate k (replicate n None)) (let e = c.len-line-end.ensures.value in omega arith) c.loop-line.invariant)
    (c.in_ok-live.ensures L).long

pub returns : goal.returns
returns g c L =
    let S = g.F.Field.scalars in
    let p = c.args.problem.now in
    let n = length p.lines in
    empty_table (space S L p.dimension) (tuples_at S L p) n (record { live = c.in_ok-live.live.items; rows = c.loop-line.rows.items })
    (subst (λ k. c.loop-line.rows.items ≡ replicate k (replicate n None)) (let e = c.len-line-end.ensures.value in omega arith) c.loop-line.invariant)
    (c.in_ok-live.ensures L)
