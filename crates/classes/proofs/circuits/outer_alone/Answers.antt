use Rattle.matching_state.proofs.Ties.{in_line_vector}
use Rattle.classes.proofs.circuits.outer_alone.Goals as goal

pub returns : goal.returns
returns g c =
    let S = g.F.Field.scalars in
    let p = c.args.state.now.problem in
    let P = rw c.problem.ensures at c.len-lines.ensures.problem in
    let place = rw c.in-Exposed.is at c.in_ok-outer.ensures in
    let long = (in_line_vector S g.met.F.Field.lawful p P c.args.line c.in-Exposed.outer c.requires.within place.1.in_line).length_is in
    (c.in-Exposed.outer, place.1, rw (c.in_ok-alone.ensures, c.as_slice.ensures.len, long, c.as_slice.ensures.value))
