use Rattle.std.proofs.Common.{◌++◌, map, length}
use Rattle.std.specs.Prelude.{codes}
use Rattle.line_lexer.specs.Words.{line_text, spelled}
use Rattle.text_forms.specs.Spelling.{counted_words}
use Rattle.text_forms.proofs.Pieces.{first_stops, rest_stops, refused, then_rest, third_is_last}
use Rattle.forest_pairs_front.specs.Spelled.{pair_words}
use Rattle.forest_pairs_front.proofs.PairPieces.{reply_pieces}
use Rattle.forest_pairs_front.proofs.writing.write_pairs.Goals as goal

pub returns-in_err-put_count : goal.returns-in_err-put_count
returns-in_err-put_count c =
    refused c.from_residual.result c.args.out.now.items _ _ _ (reply_pieces c.args.set.now) c.from_residual.ensures.0
    (first_stops _ _ _ _ c.in_err-put_count.ensures)

pub returns-in_err-put_count-2 : goal.returns-in_err-put_count-2
returns-in_err-put_count-2 c =
    refused c.from_residual-in_err-put_count-2.result c.args.out.now.items _ _ _ (reply_pieces c.args.set.now)
    c.from_residual-in_err-put_count-2.ensures.0
    (rest_stops _ _ _ _ _ c.in_ok-put_count.ensures (first_stops _ _ _ _ (rw c.len.ensures.value at c.in_err-put_count-2.ensures)))

pub returns-in_err-put_pairs : goal.returns-in_err-put_pairs
returns-in_err-put_pairs c =
    refused c.from_residual-in_err-put_pairs.result c.args.out.now.items _ _ _ (reply_pieces c.args.set.now)
    c.from_residual-in_err-put_pairs.ensures.0
    (rest_stops _ _ _ _ _ c.in_ok-put_count.ensures (rest_stops _ _ _ _ _ (rw c.len.ensures.value at c.in_ok-put_count-2.ensures)
    (first_stops _ _ _ _ c.in_err-put_pairs.ensures)))

pub returns : goal.returns
returns c =
    let size = line_text (counted_words (codes "size") (length c.args.set.now)) in
    let pairs = spelled (map pair_words c.args.set.now) in
    third_is_last c.args.out.now.items c.put_count.new.out.items c.put_count-2.new.out.items c.put.new.out.items
    (line_text (counted_words (codes "pairs") 1)) size (pairs ++ codes "end\n") _ c.put.result
    (reply_pieces c.args.set.now) c.in_ok-put_count.ensures (rw c.len.ensures.value at c.in_ok-put_count-2.ensures)
    (then_rest c.put_count-2.new.out.items c.put_pairs.new.out.items c.put.new.out.items pairs (codes "end\n") c.put.result
    c.in_ok-put_pairs.ensures c.put.ensures)
