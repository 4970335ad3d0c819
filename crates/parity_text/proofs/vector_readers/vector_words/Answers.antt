use Rattle.std.proofs.Common.{rules, arith, ◌≡◌, ◌++◌, ◌∷◌, [], map, ap, ◌∙◌}
use Rattle.std.proofs.lemmas.Result.{err_from_is_err_and}
use Rattle.std.proofs.lemmas.List.{map_push}
use Rattle.text_forms.specs.Places.{entry}
use Rattle.parity_text.specs.Texts.{vector}
use Rattle.text_forms.proofs.Loops.{times_goes_on, times_stops, times_is_done}
use Rattle.parity_text.proofs.vector_readers.vector_words.Goals as goal

pub returns-in_err-x-clause-gives : goal.returns-in_err-x-clause-gives
returns-in_err-x-clause-gives g c =
    let refused = err_from_is_err_and c.from_residual.result c.from_residual.ensures.1 in
    rw (refused.1, refused.2) (times_stops (entry g.F.Field.scalars.order) _ _ c.args.count c.loop-i.i _ _ _
    (vector g.F.Field.scalars.order c.args.count c.args.lexer.now.line c.args.lexer.now.words) c.loop-i-test.true
    c.loop-i.invariant.same.line c.in_err-x.ensures.gives c.loop-i.invariant.rest)

pub loop-i-preserved : goal.loop-i-preserved
loop-i-preserved g c =
    let f = g.F.Field.number in
    let pushed : c.push.new.self.items ≡ c.loop-i.entries.items ++ c.in_ok-x.x ∷ [] = search rules in
    let longer = ap (map f) pushed ∙ map_push f c.loop-i.entries.items c.in_ok-x.x in
    record {
      same = search rules;
      long = search rules;
      rest = times_goes_on (entry g.F.Field.scalars.order) _ _ _ c.args.count c.loop-i.i _ _ _ _
          (vector g.F.Field.scalars.order c.args.count c.args.lexer.now.line c.args.lexer.now.words) c.loop-i-test.true
          c.loop-i.invariant.same.line longer c.in_ok-x.ensures.gives c.loop-i.invariant.rest;
    }

pub returns-clause-gives : goal.returns-clause-gives
returns-clause-gives g c = times_is_done (entry g.F.Field.scalars.order) _ c.args.count c.loop-i.i _ _
    (vector g.F.Field.scalars.order c.args.count c.args.lexer.now.line c.args.lexer.now.words) (omega arith) c.loop-i.invariant.rest
