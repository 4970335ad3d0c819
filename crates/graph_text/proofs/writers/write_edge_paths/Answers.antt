use Rattle.std.proofs.Common.{◌++◌, map, length}
use Rattle.std.specs.Prelude.{codes}
use Rattle.line_lexer.specs.Words.{line_text, spelled}
use Rattle.graph_text.specs.Spelled.{dart_path_words}
use Rattle.text_forms.specs.Spelling.{counted_words}
use Rattle.graph_text.proofs.Pieces.{reply_pieces}
use Rattle.text_forms.proofs.Pieces.{first_stops, rest_stops, refused, third_is_last}
use Rattle.graph_text.proofs.writers.write_edge_paths.Goals as goal

pub returns-in_err-put_head : goal.returns-in_err-put_head
returns-in_err-put_head c =
    refused c.from_residual.result c.args.out.now.items _ _ _ (reply_pieces (counted_words (codes "edgepaths") 1) (counted_words (codes "count") (length c.args.paths.now)) (map dart_path_words c.args.paths.now)) c.from_residual.ensures.0
    (first_stops _ _ _ _ (rw c.len.ensures at c.in_err-put_head.ensures))

pub returns-in_err-put_dart_paths : goal.returns-in_err-put_dart_paths
returns-in_err-put_dart_paths c =
    refused c.from_residual-in_err-put_dart_paths.result c.args.out.now.items _ _ _ (reply_pieces (counted_words (codes "edgepaths") 1) (counted_words (codes "count") (length c.args.paths.now)) (map dart_path_words c.args.paths.now)) c.from_residual-in_err-put_dart_paths.ensures.0
    (rest_stops _ _ _ _ _ (rw c.len.ensures at c.in_ok-put_head.ensures) (first_stops _ _ _ _ c.in_err-put_dart_paths.ensures))

pub returns : goal.returns
returns c =
    let head = counted_words (codes "edgepaths") 1 in
    let count = counted_words (codes "count") (length c.args.paths.now) in
    let ls = map dart_path_words c.args.paths.now in
    third_is_last c.args.out.now.items c.put_head.new.out.items c.put_dart_paths.new.out.items c.put.new.out.items (line_text head ++ line_text count) (spelled ls) (codes "end\n") _ c.put.result
    (reply_pieces head count ls) (rw c.len.ensures at c.in_ok-put_head.ensures) c.in_ok-put_dart_paths.ensures c.put.ensures
