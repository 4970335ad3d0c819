use Rattle.std.proofs.Common.{rules, arith, ◌≡◌, ◌++◌, ◌∷◌, [], ◌-◌}
use Rattle.std.proofs.lemmas.Result.{err_from_is_err_and}
use Rattle.text_forms.specs.Places.{positions}
use Rattle.text_forms.proofs.Loops.{positions_go_on, positions_stop, positions_are_done}
use Rattle.parity_text.proofs.Increasing.{below_next}
use Rattle.parity_text.proofs.position_readers.position_words.Goals as goal

pub returns-in_err-n-clause-gives : goal.returns-in_err-n-clause-gives
returns-in_err-n-clause-gives c =
    let refused = err_from_is_err_and c.from_residual.result c.from_residual.ensures.1 in
    rw (refused.1, refused.2) (positions_stop _ _ c.args.count c.loop-i.i c.args.lines _ _ _
    (positions c.args.count c.args.lines c.args.lexer.now.line c.args.lexer.now.words) c.loop-i-test.true c.in_err-n.ensures.gives
    c.loop-i.invariant.rest)

pub loop-i-preserved : goal.loop-i-preserved
loop-i-preserved c =
    let pushed : c.push.new.self ≡ c.loop-i.set ++ (c.in_ok-n.n - 1) ∷ [] = search rules in
    let on_line : c.position_word.new.lexer.line ≡ c.loop-i.lexer.line = c.in_ok-n.ensures.same.line in
    record {
      same = search rules;
      below = below_next _ _ _ _ c.loop-i.invariant.below c.in_ok-n.ensures.range.2 pushed;
      rest = rw (pushed, on_line) (positions_go_on _ _ c.args.count c.loop-i.i c.args.lines _ _ _ _
          (positions c.args.count c.args.lines c.args.lexer.now.line c.args.lexer.now.words) c.loop-i-test.true c.in_ok-n.ensures.gives
          c.loop-i.invariant.rest);
    }

pub returns-clause-gives : goal.returns-clause-gives
returns-clause-gives c = positions_are_done _ c.args.count c.loop-i.i c.args.lines _ _ _
    (positions c.args.count c.args.lines c.args.lexer.now.line c.args.lexer.now.words) (omega arith) c.loop-i.invariant.rest
