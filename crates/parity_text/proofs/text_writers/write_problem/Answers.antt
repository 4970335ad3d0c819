use Rattle.std.proofs.Common.{◌++◌, map, sym, ◌∙◌, length}
use Rattle.std.specs.Prelude.{codes}
use Rattle.line_lexer.specs.Words.{line_text, spelled}
use Rattle.parity_text.specs.Spelled.{pair_words}
use Rattle.text_forms.specs.Spelling.{counted_words}
use Rattle.text_forms.proofs.Pieces.{first_stops, rest_stops, refused, then_rest, third_is_last}
use Rattle.parity_text.proofs.TextPieces.{problem_pieces}
use Rattle.parity_text.proofs.text_writers.write_problem.Goals as goal

pub returns-in_err-put_count : goal.returns-in_err-put_count
returns-in_err-put_count g c =
    let p = c.args.problem.now in
    let q = g.F.Field.scalars.order in
    refused c.from_residual.result c.args.out.now.items _ _ _ (problem_pieces q p) c.from_residual.ensures.0
    (first_stops _ _ _ _ c.in_err-put_count.ensures)

pub returns-in_err-put_count-2 : goal.returns-in_err-put_count-2
returns-in_err-put_count-2 g c =
    let p = c.args.problem.now in
    let q = g.F.Field.scalars.order in
    refused c.from_residual-in_err-put_count-2.result c.args.out.now.items _ _ _
    (problem_pieces q p) c.from_residual-in_err-put_count-2.ensures.0
    (rest_stops _ _ _ _ _ c.in_ok-put_count.ensures
    (first_stops _ _ _ _ (rw (c.ORDER.ensures ∙ sym g.met.F.Field.order_is) at c.in_err-put_count-2.ensures)))

pub returns-in_err-put_count-3 : goal.returns-in_err-put_count-3
returns-in_err-put_count-3 g c =
    let p = c.args.problem.now in
    let q = g.F.Field.scalars.order in
    refused c.from_residual-in_err-put_count-3.result c.args.out.now.items _ _ _
    (problem_pieces q p) c.from_residual-in_err-put_count-3.ensures.0
    (rest_stops _ _ _ _ _ c.in_ok-put_count.ensures
    (rest_stops _ _ _ _ _ (rw (c.ORDER.ensures ∙ sym g.met.F.Field.order_is) at c.in_ok-put_count-2.ensures)
    (first_stops _ _ _ _ (rw c.dimension.ensures at c.in_err-put_count-3.ensures))))

pub returns-in_err-put_count-4 : goal.returns-in_err-put_count-4
returns-in_err-put_count-4 g c =
    let p = c.args.problem.now in
    let q = g.F.Field.scalars.order in
    refused c.from_residual-in_err-put_count-4.result c.args.out.now.items _ _ _
    (problem_pieces q p) c.from_residual-in_err-put_count-4.ensures.0
    (rest_stops _ _ _ _ _ c.in_ok-put_count.ensures
    (rest_stops _ _ _ _ _ (rw (c.ORDER.ensures ∙ sym g.met.F.Field.order_is) at c.in_ok-put_count-2.ensures)
    (rest_stops _ _ _ _ _ (rw c.dimension.ensures at c.in_ok-put_count-3.ensures)
    (first_stops _ _ _ _ (rw c.len.ensures.value at c.in_err-put_count-4.ensures)))))

pub returns : goal.returns
returns g c =
    let p = c.args.problem.now in
    let q = g.F.Field.scalars.order in
    third_is_last c.args.out.now.items c.put_count.new.out.items c.put_count-2.new.out.items c.put_pairs.new.out.items
    (line_text (counted_words (codes "parity") 1)) (line_text (counted_words (codes "field") q))
    ((line_text (counted_words (codes "dimension") p.dimension))
    ++ ((line_text (counted_words (codes "lines") (length p.lines))) ++ ((spelled (map pair_words p.lines))))) _ c.put_pairs.result
    (problem_pieces q p) c.in_ok-put_count.ensures (rw (c.ORDER.ensures ∙ sym g.met.F.Field.order_is) at c.in_ok-put_count-2.ensures)
    (then_rest c.put_count-2.new.out.items c.put_count-3.new.out.items c.put_pairs.new.out.items
    (line_text (counted_words (codes "dimension") p.dimension))
    ((line_text (counted_words (codes "lines") (length p.lines))) ++ ((spelled (map pair_words p.lines)))) c.put_pairs.result
    (rw c.dimension.ensures at c.in_ok-put_count-3.ensures)
    (then_rest c.put_count-3.new.out.items c.put_count-4.new.out.items c.put_pairs.new.out.items
    (line_text (counted_words (codes "lines") (length p.lines))) ((spelled (map pair_words p.lines))) c.put_pairs.result
    (rw c.len.ensures.value at c.in_ok-put_count-4.ensures)
    (c.put_pairs.ensures)))
