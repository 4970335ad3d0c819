use Rattle.std.specs.Prelude.{codes}
use Rattle.line_lexer.specs.Words.{line_text, spelled}
use Rattle.parity_text.specs.Spelled.{set_lines}
use Rattle.text_forms.specs.Spelling.{counted_words}
use Rattle.text_forms.proofs.Pieces.{first_stops, rest_stops, refused, third_is_last}
use Rattle.parity_text.proofs.TextPieces.{choice_pieces}
use Rattle.parity_text.proofs.text_writers.write_set.Goals as goal

pub returns-in_err-put_count : goal.returns-in_err-put_count
returns-in_err-put_count c =
    refused c.from_residual.result c.args.out.now.items _ _ _ (choice_pieces c.args.set.now) c.from_residual.ensures.0
    (first_stops _ _ _ _ c.in_err-put_count.ensures)

pub returns-in_err-put_set : goal.returns-in_err-put_set
returns-in_err-put_set c =
    refused c.from_residual-in_err-put_set.result c.args.out.now.items _ _ _
    (choice_pieces c.args.set.now) c.from_residual-in_err-put_set.ensures.0
    (rest_stops _ _ _ _ _ c.in_ok-put_count.ensures (first_stops _ _ _ _ c.in_err-put_set.ensures))

pub returns : goal.returns
returns c =
    third_is_last c.args.out.now.items c.put_count.new.out.items c.put_set.new.out.items c.put.new.out.items
    (line_text (counted_words (codes "choice") 1)) (spelled (set_lines c.args.set.now)) ((codes "end\n")) _ c.put.result
    (choice_pieces c.args.set.now) c.in_ok-put_count.ensures c.in_ok-put_set.ensures
    (c.put.ensures)
