use Rattle.std.proofs.Common.{rules, ◌≡◌, ◌++◌, ◌∷◌, [], ◌-◌}
use Rattle.std.proofs.lemmas.Result.{err_from_is_err_and}
use Rattle.text_forms.proofs.Loops.{some_start, some_fail, some_go_on, some_stop, some_are_done}
use Rattle.parity_text.proofs.Increasing.{below_next, below_first, some_pushed}
use Rattle.parity_text.proofs.position_readers.some_position_words.Goals as goal

pub returns-in_err-before-clause-gives : goal.returns-in_err-before-clause-gives
returns-in_err-before-clause-gives c =
    let refused = err_from_is_err_and c.from_residual.result c.from_residual.ensures.1 in
    rw (refused.1, refused.2) (some_fail _ c.args.lines _ _ c.in_err-before.ensures.gives)

pub loop-set-init : goal.loop-set-init
loop-set-init c =
    let pushed : c.push.new.self ≡ (c.in_ok-before.before - 1) ∷ [] = search rules in
    let on_line : c.position_word.new.lexer.line ≡ c.args.lexer.now.line = c.in_ok-before.ensures.same.line in
    record {
      same = search rules;
      below = below_first _ _ c.in_ok-before.ensures.range.0 pushed;
      some = search rules;
      rest = rw (pushed, on_line) (some_start c.args.lines _ _ _ _ c.in_ok-before.ensures.gives);
    }

pub loop-set-preserved : goal.loop-set-preserved
loop-set-preserved c =
    let some = rw c.in-Some.is at c.in_ok-n.ensures.gives in
    let range = rw c.in-Some.is at c.in_ok-n.ensures.range in
    let pushed : c.push-in-Some.new.self ≡ c.loop-set.set ++ (c.in-Some.n - 1) ∷ [] = search rules in
    let on_line : c.position_or_end.new.lexer.line ≡ c.loop-set.lexer.line = c.in_ok-n.ensures.same.line in
    record {
      same = search rules;
      below = below_next _ _ _ _ c.loop-set.invariant.below range.2 pushed;
      some = some_pushed _ _ _ pushed;
      rest = rw (pushed, on_line) (some_go_on _ _ c.args.lines _ _ _ _ _ some c.loop-set.invariant.rest);
    }

pub returns-in_err-n-clause-gives : goal.returns-in_err-n-clause-gives
returns-in_err-n-clause-gives c =
    let refused = err_from_is_err_and c.from_residual-in_err-n.result c.from_residual-in_err-n.ensures.1 in
    rw (refused.1, refused.2) (some_stop _ _ c.args.lines _ _ _ _ c.in_err-n.ensures.gives c.loop-set.invariant.rest)

pub returns-clause-gives : goal.returns-clause-gives
returns-clause-gives c =
    let none = rw c.in_default.is at c.in_ok-n.ensures.gives in
    some_are_done _ c.args.lines _ _ _ _ _ none c.loop-set.invariant.rest
