use Rattle.std.proofs.Common.{◌<◌, refl, sym, ap, ◌∙◌, arith}
use Rattle.line_lexer.specs.Seen.{Seen}
use Rattle.line_lexer.proofs.NextWord.{IsNextWord, no_word_at, a_word_at, a_place_at, within_end, words_at_end}
use Rattle.line_lexer.proofs.lexer.Lexer.next_word.Goals as goal

pub returns-then-len-eq0-clause-word : goal.returns-then-len-eq0-clause-word
returns-then-len-eq0-clause-word c =
    let none = no_word_at c.self.inside.bytes.now _ _ c.word_start-skipped.result c.word_end-len.result
    (record { skips = c.word_start-skipped.ensures.value; in_line = c.word_start-skipped.ensures.within; ends = c.word_end-len.ensures.value; in_tail = c.word_end-len.ensures.within })
    c.if-len-eq0.true in
    let left = words_at_end c.self.inside.bytes.now c.self.inside.end in
    (sym (ap (λ (s : Seen). s.words) c.self.view_is) ∙ none.0, left.0, sym (ap (λ (s : Seen). s.places) c.self.view_is) ∙ none.1, left.1)

pub returns-clause-word : goal.returns-clause-word
returns-clause-word c =
    let places : IsNextWord c.self.inside.bytes.now c.self.inside.word c.self.inside.end c.word_start-skipped.result c.word_end-len.result =
    record { skips = c.word_start-skipped.ensures.value; in_line = c.word_start-skipped.ensures.within; ends = c.word_end-len.ensures.value; in_tail = c.word_end-len.ensures.within } in
    let some : 0 < c.word_end-len.result = omega arith in
    rw (← c.self.view_is) (
      a_word_at _ _ _ _ _ places some,
      a_place_at _ _ _ _ _ places some,
      record { on_line = refl; order = omega arith; within = omega (arith, within_end _ _ _ _ _ places some) },
    )
