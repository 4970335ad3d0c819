use Rattle.std.proofs.Common.{arith, rules, refl}
use Rattle.line_lexer.proofs.Places.{count_next, lines_end}
use Rattle.line_lexer.proofs.count.line_count.Goals as goal

pub loop-at-preserved : goal.loop-at-preserved
loop-at-preserved c =
    let next = count_next c.args.text.now _ c.loop-at.at c.line_end-len.result c.loop-at-test.true refl c.line_end-len.ensures.value in
    record { within = search rules; short = omega arith; counted = rw c.min-at.ensures (omega (arith, next, c.loop-at.invariant.counted)) }

pub returns-clause-value : goal.returns-clause-value
returns-clause-value c = let none = lines_end c.loop-at.at c.args.text.now (omega arith) in omega (arith, none, c.loop-at.invariant.counted)
