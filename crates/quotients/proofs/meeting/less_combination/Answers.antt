use Rattle.std.proofs.Common.{map, sym, ap, ◌∙◌, arith}
use Rattle.std.proofs.lemmas.List.{get_or-map, length-map}
use Rattle.field_core.proofs.Values.{numbers_of_values, vector_of_values}
use Rattle.quotients.proofs.LessCombination.{less_none, less_more, less_all}
use Rattle.quotients.proofs.meeting.less_combination.Goals as goal

pub loop-i-init : goal.loop-i-init
loop-i-init g c =
    let S = g.F.Field.scalars in
    let f = g.F.Field.number in
    let rows = c.args.rows.now in
    let v = c.args.v.now in
    less_none S g.met.F.Field.lawful rows.width (map f c.args.coefficients.now) rows.rows (map f v) c.in_ok-left.left
    (vector_of_values S f g.met.F.Field.is_scalar v rows.width c.requires.width) c.in_ok-left.ensures

pub loop-i-preserved : goal.loop-i-preserved
loop-i-preserved g c =
    let S = g.F.Field.scalars in
    let f = g.F.Field.number in
    let rows = c.args.rows.now in
    let cs = c.args.coefficients.now in
    let i = c.loop-i.i in
    let a = c.index-coefficients-i.result in
    less_more S g.met.F.Field.lawful rows.width (map f cs) rows.rows (numbers_of_values S f g.met.F.Field.is_scalar cs) c.len-i-end.ensures.vectors (length-map cs f ∙ c.requires.one_each)
    (map f c.args.v.now) c.loop-i.left c.add_multiple.new.self (map f c.row.result.now) i (f a) (f c.neg.result) (omega arith)
    (ap f c.index-coefficients-i.is ∙ sym (get_or-map f cs i a 0 (let e = c.requires.one_each in omega arith)))
    c.row.ensures.value (g.met.F.Field.is_scalar c.neg.result) c.neg.ensures c.add_multiple.ensures c.loop-i.invariant

pub returns-clause-sum : goal.returns-clause-sum
returns-clause-sum g c =
    let f = g.F.Field.number in
    let rows = c.args.rows.now in
    let cs = c.args.coefficients.now in
    less_all g.F.Field.scalars g.met.F.Field.lawful rows.width (map f cs) rows.rows (map f c.args.v.now) c.loop-i.left c.loop-i.i (omega arith) (length-map cs f ∙ c.requires.one_each) c.loop-i.invariant
