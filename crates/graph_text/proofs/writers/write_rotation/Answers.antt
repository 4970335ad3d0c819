use Rattle.std.proofs.Common.{◌++◌, map}
use Rattle.std.specs.Prelude.{codes}
use Rattle.std.specs.List.{zip}
use Rattle.line_lexer.specs.Words.{line_text, spelled}
use Rattle.graph_text.specs.Spelled.{at_words}
use Rattle.text_forms.specs.Spelling.{counted_words}
use Rattle.graph_text.proofs.Pieces.{longer_pieces}
use Rattle.text_forms.proofs.Pieces.{first_stops, rest_stops, refused, then_rest, third_is_last}
use Rattle.graph_text.proofs.writers.write_rotation.Goals as goal

pub returns-in_err-put_head : goal.returns-in_err-put_head
returns-in_err-put_head c =
    refused c.from_residual.result c.args.out.now.items _ _ _
    (longer_pieces (counted_words (codes "rotation") 1) (counted_words (codes "genus") c.args.genus)
    (counted_words (codes "faces") c.args.faces) (map at_words (zip c.args.graph.now.names c.args.rotation.now.lists)))
    c.from_residual.ensures.0
    (first_stops _ _ _ _ c.in_err-put_head.ensures)

pub returns-in_err-put_count : goal.returns-in_err-put_count
returns-in_err-put_count c =
    refused c.from_residual-in_err-put_count.result c.args.out.now.items _ _ _
    (longer_pieces (counted_words (codes "rotation") 1) (counted_words (codes "genus") c.args.genus)
    (counted_words (codes "faces") c.args.faces) (map at_words (zip c.args.graph.now.names c.args.rotation.now.lists)))
    c.from_residual-in_err-put_count.ensures.0
    (rest_stops _ _ _ _ _ c.in_ok-put_head.ensures (first_stops _ _ _ _ c.in_err-put_count.ensures))

pub returns-in_err-put_rotation : goal.returns-in_err-put_rotation
returns-in_err-put_rotation c =
    refused c.from_residual-in_err-put_rotation.result c.args.out.now.items _ _ _
    (longer_pieces (counted_words (codes "rotation") 1) (counted_words (codes "genus") c.args.genus)
    (counted_words (codes "faces") c.args.faces) (map at_words (zip c.args.graph.now.names c.args.rotation.now.lists)))
    c.from_residual-in_err-put_rotation.ensures.0
    (rest_stops _ _ _ _ _ c.in_ok-put_head.ensures
    (rest_stops _ _ _ _ _ c.in_ok-put_count.ensures (first_stops _ _ _ _ c.in_err-put_rotation.ensures)))

pub returns : goal.returns
returns c =
    let head = counted_words (codes "rotation") 1 in
    let genus = counted_words (codes "genus") c.args.genus in
    let faces = counted_words (codes "faces") c.args.faces in
    let ls = map at_words (zip c.args.graph.now.names c.args.rotation.now.lists) in
    third_is_last c.args.out.now.items c.put_head.new.out.items c.put_count.new.out.items c.put.new.out.items
    (line_text head ++ line_text genus) (line_text faces)
    (spelled ls ++ codes "end\n") _ c.put.result (longer_pieces head genus faces ls) c.in_ok-put_head.ensures c.in_ok-put_count.ensures
    (then_rest c.put_count.new.out.items c.put_rotation.new.out.items c.put.new.out.items (spelled ls) (codes "end\n") c.put.result
    c.in_ok-put_rotation.ensures c.put.ensures)
