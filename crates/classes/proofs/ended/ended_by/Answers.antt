use Rattle.std.proofs.Common.{refl}
use Rattle.classes.proofs.ended.ended_by.Goals as goal

pub returns-in_ok-copied-in-None : goal.returns-in_ok-copied-in-None
returns-in_ok-copied-in-None g c =
    rw (c.in_ok-copied-in-None.ensures, c.set-set.ensures.value) (record {
      set = record { independent = c.set-set.ensures.independent; size = refl };
      no_step = rw c.in-None.is at c.in_ok-larger.ensures;
      first_within = c.requires.first_within;
      second_within = c.requires.second_within;
      overlap = c.requires.overlap;
    })

pub returns-in-Some : goal.returns-in-Some
returns-in-Some g c =
    let told = rw c.in-Some.is at c.in_ok-larger.ensures in
    record { independent = told.0; size = told.2 }
