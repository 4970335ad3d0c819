use Rattle.std.proofs.Common.{◌++◌, length}
use Rattle.std.specs.Prelude.{codes}
use Rattle.line_lexer.specs.Words.{line_text}
use Rattle.graph_text.specs.Spelled.{listed_words}
use Rattle.text_forms.specs.Spelling.{counted_words}
use Rattle.graph_text.proofs.Pieces.{three_line_pieces}
use Rattle.text_forms.proofs.Pieces.{first_stops, rest_stops, refused, third_is_last}
use Rattle.graph_text.proofs.writers.write_feedback.Goals as goal

pub returns-in_err-put_head : goal.returns-in_err-put_head
returns-in_err-put_head c =
    refused c.from_residual.result c.args.out.now.items _ _ _
    (three_line_pieces (counted_words (codes "feedback") 1) (counted_words (codes "size") (length c.args.vertices.now))
    (listed_words (codes "vertices") c.args.graph.now c.args.vertices.now)) c.from_residual.ensures.0
    (first_stops _ _ _ _ (rw c.len.ensures at c.in_err-put_head.ensures))

pub returns-in_err-put_listed : goal.returns-in_err-put_listed
returns-in_err-put_listed c =
    refused c.from_residual-in_err-put_listed.result c.args.out.now.items _ _ _
    (three_line_pieces (counted_words (codes "feedback") 1) (counted_words (codes "size") (length c.args.vertices.now))
    (listed_words (codes "vertices") c.args.graph.now c.args.vertices.now)) c.from_residual-in_err-put_listed.ensures.0
    (rest_stops _ _ _ _ _ (rw c.len.ensures at c.in_ok-put_head.ensures) (first_stops _ _ _ _ c.in_err-put_listed.ensures))

pub returns : goal.returns
returns c =
    let head = counted_words (codes "feedback") 1 in
    let count = counted_words (codes "size") (length c.args.vertices.now) in
    let ws = listed_words (codes "vertices") c.args.graph.now c.args.vertices.now in
    third_is_last c.args.out.now.items c.put_head.new.out.items c.put_listed.new.out.items c.put.new.out.items
    (line_text head ++ line_text count) (line_text ws) (codes "end\n") _ c.put.result
    (three_line_pieces head count ws) (rw c.len.ensures at c.in_ok-put_head.ensures) c.in_ok-put_listed.ensures c.put.ensures
