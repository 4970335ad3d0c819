use Rattle.std.proofs.Common.{rules, arith, ◌≡◌, ◌++◌, ◌∷◌, [], map, length, ap}
use Rattle.std.proofs.lemmas.Result.{err_from_is_err_and}
use Rattle.line_lexer.specs.Lines.{lines}
use Rattle.text_forms.specs.Forms.{line}
use Rattle.text_forms.specs.Places.{times}
use Rattle.text_forms.proofs.Loops.{times_goes_on, times_stops, times_is_done}
use Rattle.parity_text.specs.Texts.{pair}
use Rattle.parity_text.proofs.line_readers.pair_lines.Goals as goal

pub returns-in_err-pair-clause-gives : goal.returns-in_err-pair-clause-gives
returns-in_err-pair-clause-gives g c =
    let same = ap (λ bytes. length (lines bytes)) c.loop-i.invariant.bytes in
    let refused = err_from_is_err_and c.from_residual.result c.from_residual.ensures.1 in
    rw (refused.1, refused.2) (times_stops (line (pair g.F.Field.scalars.order c.args.dimension)) _ _ c.args.count c.loop-i.i _ _ _
    (times c.args.count (line (pair g.F.Field.scalars.order c.args.dimension))
    (length (lines c.args.lexer.now.bytes)) c.args.lexer.now.ahead) c.loop-i-test.true same c.in_err-pair.ensures.gives
    c.loop-i.invariant.rest)

pub loop-i-preserved : goal.loop-i-preserved
loop-i-preserved g c =
    let f = g.F.Field.number in
    let same = ap (λ bytes. length (lines bytes)) c.loop-i.invariant.bytes in
    let pushed : c.push.new.self.lines ≡ c.loop-i.problem.lines
    ++ (map f c.in_ok-pair.pair.first.items, map f c.in_ok-pair.pair.second.items) ∷ [] = search rules in
    record {
      bytes = search rules;
      dimension = search rules;
      rest = times_goes_on (line (pair g.F.Field.scalars.order c.args.dimension)) _ _ _ c.args.count c.loop-i.i _ _ _ _
          (times c.args.count (line (pair g.F.Field.scalars.order c.args.dimension))
          (length (lines c.args.lexer.now.bytes)) c.args.lexer.now.ahead) c.loop-i-test.true same pushed c.in_ok-pair.ensures.gives
          c.loop-i.invariant.rest;
    }

pub returns-clause-gives : goal.returns-clause-gives
returns-clause-gives g c = times_is_done (line (pair g.F.Field.scalars.order c.args.dimension)) _ c.args.count c.loop-i.i _ _
    (times c.args.count (line (pair g.F.Field.scalars.order c.args.dimension))
    (length (lines c.args.lexer.now.bytes)) c.args.lexer.now.ahead) (omega arith) c.loop-i.invariant.rest
