use Rattle.std.proofs.Common.{rules, arith}
use Rattle.line_lexer.proofs.FirstLine.{Found, content-is, is_bad, is_passed_over, has_words, has_places}
use Rattle.line_lexer.proofs.first_line.read_first_line.Goals as goal

pub returns-then-not-is_plain-clause-line : goal.returns-then-not-is_plain-clause-line
returns-then-not-is_plain-clause-line c =
    is_bad _ c.without_return-line.result.now c.line_end-len.result c.comment_start-end.result _
    (record {
      some = c.requires;
      len_is = c.line_end-len.ensures.value;
      next_is = search rules;
      content = content-is _ _ _ _ c.without_return-line.ensures c.comment_start-end.ensures.value;
    })
    (search rules)

pub returns-then-start-end-clause-line : goal.returns-then-start-end-clause-line
returns-then-start-end-clause-line c =
    let content = content-is _ _ _ _ c.without_return-line.ensures c.comment_start-end.ensures.value in
    let found : Found c.args.text.now c.without_return-line.result.now c.line_end-len.result c.comment_start-end.result c.min-next.result =
    record { some = c.requires; len_is = c.line_end-len.ensures.value; next_is = search rules; content = content } in (
      has_words _ _ _ _ _ _ found
          (search rules)
          c.word_start-start.ensures.value
          (search rules),
      has_places _ _ _ _ _ _ found c.word_start-start.ensures.value (search rules),
      omega arith,
      content.within,
    )

pub returns-else-start-end-clause-line : goal.returns-else-start-end-clause-line
returns-else-start-end-clause-line c =
    is_passed_over _ c.without_return-line.result.now c.line_end-len.result c.comment_start-end.result _ _
    (record {
      some = c.requires;
      len_is = c.line_end-len.ensures.value;
      next_is = search rules;
      content = content-is _ _ _ _ c.without_return-line.ensures c.comment_start-end.ensures.value;
    })
    (search rules)
    c.word_start-start.ensures.value
    (search rules)
