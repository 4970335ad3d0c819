use Rattle.std.proofs.Common.{◌∷◌, length}
use Rattle.std.specs.Prelude.{codes}
use Rattle.line_lexer.specs.Words.{line_text}
use Rattle.parity_text.specs.Spelled.{position_words}
use Rattle.text_forms.specs.Spelling.{counted_words}
use Rattle.text_forms.proofs.Pieces.{first_stops, refused, second_is_last}
use Rattle.parity_text.proofs.TextPieces.{set_pieces}
use Rattle.parity_text.proofs.text_writers.put_set.Goals as goal

pub returns-in_err-put_count : goal.returns-in_err-put_count
returns-in_err-put_count c =
    refused c.from_residual.result c.args.out.now.items _ _ _ (set_pieces c.args.set.now) c.from_residual.ensures.0
    (first_stops _ _ _ _ (rw c.len.ensures.value at c.in_err-put_count.ensures))

pub returns : goal.returns
returns c =
    second_is_last c.args.out.now.items c.put_count.new.out.items c.put_listed.new.out.items
    (line_text (counted_words (codes "size") (length c.args.set.now)))
    (line_text (codes "set" ∷ position_words c.args.set.now)) _ c.put_listed.result (set_pieces c.args.set.now)
    (rw c.len.ensures.value at c.in_ok-put_count.ensures) c.put_listed.ensures
