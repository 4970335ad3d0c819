use Rattle.std.proofs.Common.{◌≡◌, ◌+◌, ◌-◌, ◌∙◌, arith, length, drop, refl}
use Rattle.std.proofs.lemmas.List.{length-take}
use Rattle.line_lexer.proofs.Places.{line_at, passed_at, lines_from_end, next_place, stand_on_line}
use Rattle.line_lexer.proofs.next_line.find_next_line.Goals as goal

pub returns-in-Words : goal.returns-in-Words
returns-in-Words c =
    let place = c.loop-at.invariant.place in
    let found = rw c.in-Words.is at c.read_first_line-found.ensures.line in (
      c.loop-at.invariant.ahead ∙ line_at (c.loop-at.passed + 1) c.loop-at.at c.read_first_line-found.result.1 c.in-Words.start c.in-Words.end c.args.bytes.now _ refl (found.0 (c.loop-at.passed + 1)),
      stand_on_line c.args.bytes.now _ c.loop-at.at c.loop-at.passed c.in-Words.start c.in-Words.end place c.loop-at-test.true refl (found.1 c.loop-at.at),
      next_place c.args.bytes.now _ c.loop-at.at c.read_first_line-found.result.1 c.loop-at.passed place c.loop-at-test.true refl c.read_first_line-found.ensures.next c.read_first_line-found.ensures.count,
      omega (arith, found.2),
      omega (arith, found.3, length-take (length c.args.bytes.now - c.loop-at.at) (drop c.loop-at.at c.args.bytes.now)),
    )

pub loop-at-preserved : goal.loop-at-preserved
loop-at-preserved c = record {
  place = next_place c.args.bytes.now _ c.loop-at.at c.read_first_line-found.result.1 c.loop-at.passed c.loop-at.invariant.place c.loop-at-test.true refl c.read_first_line-found.ensures.next c.read_first_line-found.ensures.count;
  ahead = c.loop-at.invariant.ahead ∙ passed_at (c.loop-at.passed + 1) c.loop-at.at c.read_first_line-found.result.1 c.args.bytes.now _ refl (rw c.in-Passed.is at c.read_first_line-found.ensures.line (c.loop-at.passed + 1));
}

pub returns : goal.returns
returns c =
    let at_end : c.loop-at.at ≡ length c.args.bytes.now = omega arith in
    (c.loop-at.invariant.ahead ∙ lines_from_end (c.loop-at.passed + 1) c.loop-at.at c.args.bytes.now (omega arith), rw (← at_end) c.loop-at.invariant.place)
