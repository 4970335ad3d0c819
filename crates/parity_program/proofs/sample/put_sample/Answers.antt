use Rattle.std.proofs.Common.{length}
use Rattle.std.specs.Prelude.{codes}
use Rattle.parity_program.proofs.SampleLines.{four_lines}
use Rattle.parity_program.proofs.sample.put_sample.Goals as goal
use Rattle.text_forms.specs.Spelling.{counted_words}

pub returns : goal.returns
returns g c =
    let p = c.args.problem.now in
    four_lines c.args.out.now.items c.put_count.new.out.items c.put_count-2.new.out.items c.put_count-3.new.out.items
    c.put_count-4.new.out.items (counted_words (codes "sample") c.args.n) (counted_words (codes "dimension") p.dimension)
    (counted_words (codes "lines") (length p.lines)) (counted_words (codes "size") c.args.size) c.put_count-4.result
    c.in_ok-put_count.ensures (rw c.dimension.ensures at c.in_ok-put_count-2.ensures)
    (rw c.len.ensures.value at c.in_ok-put_count-3.ensures) c.put_count-4.ensures
