use Rattle.std.proofs.Common.{rules, arith, ◌≡◌, ◌++◌, ◌∷◌, [], length, ap}
use Rattle.std.proofs.lemmas.Result.{err_from_is_err_and}
use Rattle.line_lexer.specs.Lines.{lines}
use Rattle.text_forms.specs.Forms.{line}
use Rattle.text_forms.specs.Places.{times}
use Rattle.text_forms.proofs.Loops.{times_goes_on, times_stops, times_is_done}
use Rattle.parity_text.specs.Texts.{part}
use Rattle.parity_text.proofs.line_readers.part_lines.Goals as goal

pub returns-in_err-part-clause-gives : goal.returns-in_err-part-clause-gives
returns-in_err-part-clause-gives c =
    let same = ap (λ bytes. length (lines bytes)) c.loop-i.invariant.bytes in
    let refused = err_from_is_err_and c.from_residual.result c.from_residual.ensures.1 in
    rw (refused.1, refused.2) (times_stops (line (part c.args.lines)) _ _ c.args.count c.loop-i.i _ _ _
    (times c.args.count (line (part c.args.lines))
    (length (lines c.args.lexer.now.bytes)) c.args.lexer.now.ahead) c.loop-i-test.true same c.in_err-part.ensures.gives
    c.loop-i.invariant.rest)

pub loop-i-preserved : goal.loop-i-preserved
loop-i-preserved c =
    let same = ap (λ bytes. length (lines bytes)) c.loop-i.invariant.bytes in
    let pushed : c.push.new.self ≡ c.loop-i.parts ++ c.in_ok-part.part ∷ [] = search rules in
    record {
      bytes = search rules;
      rest = times_goes_on (line (part c.args.lines)) _ _ _ c.args.count c.loop-i.i _ _ _ _
          (times c.args.count (line (part c.args.lines))
          (length (lines c.args.lexer.now.bytes)) c.args.lexer.now.ahead) c.loop-i-test.true same pushed c.in_ok-part.ensures.gives
          c.loop-i.invariant.rest;
    }

pub returns-clause-gives : goal.returns-clause-gives
returns-clause-gives c = times_is_done (line (part c.args.lines)) _ c.args.count c.loop-i.i _ _
    (times c.args.count (line (part c.args.lines)) (length (lines c.args.lexer.now.bytes)) c.args.lexer.now.ahead)
    (omega arith) c.loop-i.invariant.rest
