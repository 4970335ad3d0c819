use Rattle.classes.proofs.CircuitTies.{circuit_starts}
use Rattle.classes.proofs.circuits.circuits.Goals as goal

pub go_round-requires : goal.go_round-requires
go_round-requires g c =
    let S = g.F.Field.scalars in
    let p = c.args.state.now.problem in
    let M = c.args.state.now.set in
    let P = rw c.problem-problem.ensures at c.len-lines.ensures.problem in
    let made = c.in_ok-keep.ensures in
    record {
      within = c.requires.within;
      target = c.requires.target;
      width = rw made.2;
      circuit = λ L. rw made.2
          (circuit_starts S L p P M c.set-set.ensures.independent c.args.line c.requires.within c.args.target.now made.0 (c.requires.apart L) made.1);
    }

pub outer_alone-requires-clause-exposed : goal.outer_alone-requires-clause-exposed
outer_alone-requires-clause-exposed g c = (c.requires.apart g.met.F.Field.lawful).exposed
