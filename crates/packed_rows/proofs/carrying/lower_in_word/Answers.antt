use Rattle.std.proofs.Common.{◌≡◌, ◌+◌, ◌*◌, ◌/◌, ◌%◌, get_or, refl, arith}
use Rattle.std.proofs.lemmas.List.{length-set}
use Rattle.packed_rows.proofs.Shifts.{lowered}
use Rattle.packed_rows.proofs.carrying.lower_in_word.Goals as goal

pub returns : goal.returns
returns c =
    let words = c.args.words.now in
    let w = c.args.at / 64 in
    let low = c.args.at % 64 in
    let start : 64 * w + low ≡ c.args.at = omega arith in
    record {
      count = length-set words w c.blended.result;
      shifted = lowered words w c.blended.result c.upper_neighbours.result (get_or words w 0) low (low + c.args.count) c.requires.place
          c.requires.within refl c.blended.ensures.inside c.blended.ensures.below c.blended.ensures.above c.args.at c.args.count start refl
          c.upper_neighbours.ensures;
    }
