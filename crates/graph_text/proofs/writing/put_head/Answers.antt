use Rattle.std.proofs.Common.{refl}
use Rattle.line_lexer.specs.Words.{line_text}
use Rattle.text_forms.specs.Spelling.{counted_words}
use Rattle.text_forms.proofs.Pieces.{first_stops, refused, second_is_last}
use Rattle.graph_text.proofs.writing.put_head.Goals as goal

pub returns-in_err-put_count : goal.returns-in_err-put_count
returns-in_err-put_count c = refused c.from_residual.result c.args.out.now.items _ _ _ refl c.from_residual.ensures.0 (first_stops _ _ _ _ c.in_err-put_count.ensures)

pub returns : goal.returns
returns c =
    second_is_last c.args.out.now.items c.put_count.new.out.items c.put_count-2.new.out.items (line_text (counted_words c.args.name.now 1)) (line_text (counted_words c.args.count.now c.args.n)) _ c.put_count-2.result refl c.in_ok-put_count.ensures c.put_count-2.ensures
