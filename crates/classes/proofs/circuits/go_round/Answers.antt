use Rattle.std.proofs.Common.{◌≡◌, suc, refl, arith}
use Rattle.parity_theory.proofs.Nearness.{left_over}
use Rattle.classes.proofs.circuits.go_round.Goals as goal

pub loop-end-init : goal.loop-end-init
loop-end-init g c = record { problem = refl; as_long = refl; circuit = c.requires.circuit }

pub circle-requires : goal.circle-requires
circle-requires g c =
    let h = c.loop-end.invariant in
    record {
      within = rw h.problem c.requires.within;
      target = rw (h.problem, h.as_long) c.requires.target;
      width = rw h.problem c.requires.width;
      circuit = λ L. rw h.problem (h.circuit L);
    }

pub loop-end-smaller : goal.loop-end-smaller
loop-end-smaller g c =
    let nearer : suc (left_over c.circle.new.state.set c.args.target.now) ≡ left_over c.loop-end.state.set c.args.target.now =
    ((rw c.in-None.is at c.in_ok-end.ensures.found) g.met.F.Field.lawful).nearer in
    omega arith

pub loop-end-preserved : goal.loop-end-preserved
loop-end-preserved g c =
    let h = c.loop-end.invariant in
    record {
      problem = rw c.in_ok-end.ensures.problem h.problem;
      as_long = rw ((rw c.in-None.is at c.in_ok-end.ensures.found) g.met.F.Field.lawful).as_long h.as_long;
      circuit = λ L. rw h.problem at ((rw c.in-None.is at c.in_ok-end.ensures.found) L).circuit;
    }
