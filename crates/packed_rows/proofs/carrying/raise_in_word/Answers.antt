use Rattle.std.proofs.Common.{◌≡◌, ◌+◌, ◌-◌, ◌*◌, ◌/◌, ◌%◌, ◌≤◌, get_or, refl, arith}
use Rattle.std.proofs.lemmas.List.{length-set}
use Rattle.packed_rows.proofs.Shifts.{raised}
use Rattle.packed_rows.proofs.carrying.raise_in_word.Goals as goal

pub returns : goal.returns
returns c =
    let words = c.args.words.now in
    let w = c.args.at / 64 in
    let high = c.args.at % 64 + 1 in
    let fits : high ≤ 64 = omega arith in
    let start : 64 * w + high ≡ c.args.at + 1 = omega arith in
    let many : high - c.args.count + c.args.count ≡ high = omega arith in
    record {
      count = length-set words w c.blended.result;
      shifted = raised words w c.blended.result c.lower_neighbours.result (get_or words w 0) (high - c.args.count) high c.requires.place fits refl
          c.blended.ensures.inside c.blended.ensures.below c.blended.ensures.above c.args.at c.args.count start many c.requires.enough
          c.lower_neighbours.ensures;
    }
