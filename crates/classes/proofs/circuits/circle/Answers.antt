use Rattle.std.proofs.Common.{refl}
use Rattle.linear_algebra.specs.Vectors.{AreVectors}
use Rattle.exchanges.proofs.ReachedSets.{exchange_told}
use Rattle.classes.proofs.CircuitTies.{circuit_exposed, circuit_goes_on, circuit_misses, comes_in, never_settles, overlap_before}
use Rattle.parity_lines.specs.Problems.{IsProblem}
use Rattle.classes.proofs.circuits.circle.Given.{Over}
use Rattle.classes.proofs.circuits.circle.Goals as goal
use Rattle.classes.proofs.circuits.circle.Goals.{After-len-kept}

problem_of : (g : Over) (c : After-len-kept g) → IsProblem g.F.Field.scalars c.args.state.now.problem
problem_of g c = rw c.problem-problem.ensures at c.len-lines.ensures.problem

vectors_of : (g : Over) (c : After-len-kept g) → AreVectors g.F.Field.scalars c.args.state.now.problem.dimension c.args.keep.now.rows
vectors_of g c = rw c.requires.width at c.len-kept.ensures.vectors

pub step_toward-requires-clause-missed : goal.step_toward-requires-clause-missed
step_toward-requires-clause-missed g c =
    let S = g.F.Field.scalars in
    let F = g.met.F.Field.lawful in
    let p = c.args.state.now.problem in
    let keep = c.args.keep.now.rows in
    let s = (goal.at.step_toward-requires-clause-missed g c).After-len-kept in
    circuit_misses S F p (problem_of g s) c.args.state.now.set c.set-set.ensures.independent c.args.line c.requires.within c.args.target.now
    c.requires.target.independent c.requires.target.size keep (vectors_of g s) (c.requires.circuit F)

pub unreachable-requires : goal.unreachable-requires
unreachable-requires g c =
    let S = g.F.Field.scalars in
    let F = g.met.F.Field.lawful in
    let p = c.args.state.now.problem in
    let M = c.args.state.now.set in
    let T = c.args.target.now in
    let keep = c.args.keep.now.rows in
    let s = (goal.at.unreachable-requires g c).After-len-kept in
    never_settles S F p (problem_of g s) M c.set-set.ensures.independent c.args.line c.requires.within T c.requires.target.independent c.requires.target.size
    keep (vectors_of g s) (c.requires.circuit F) (rw c.in-Settled.is at c.in_ok-larger.ensures.step).1

pub end_before-requires : goal.end_before-requires
end_before-requires g c =
    let S = g.F.Field.scalars in
    let F = g.met.F.Field.lawful in
    let p = c.args.state.now.problem in
    let M = c.args.state.now.set in
    let N = c.step_toward.new.state.set in
    let T = c.args.target.now in
    let e = c.args.line in
    let into = c.in-Moved.into in
    let keep = c.args.keep.now.rows in
    let i = c.set-set.ensures.independent in
    let s = (goal.at.end_before-requires g c).After-len-kept in
    let told = exchange_told S p p keep T M N c.in_ok-larger.field-0 c.in-Moved.out into refl c.in-Moved.is c.in_ok-larger.ensures.step
    c.in_ok-larger.ensures.kept in
    record {
      within = rw (c.in_ok-before.ensures.problem, c.problem-problem.ensures) c.requires.within;
      into_within = rw (c.in_ok-before.ensures.problem, c.problem-problem.ensures) (comes_in S F p (problem_of g s) M i e c.requires.within T
          c.requires.target.independent c.requires.target.size keep (vectors_of g s) (c.requires.circuit F) N c.in-Moved.out into told.0 told.1);
      exposed = rw (c.in_ok-before.ensures.problem, c.in_ok-before.ensures.set, c.problem-problem.ensures, c.set-set.ensures.value) (circuit_exposed S F p (problem_of g s) M i e
          c.requires.within T c.requires.target.independent c.requires.target.size keep (vectors_of g s) (c.requires.circuit F));
      into_exposed = rw (c.in_ok-before.ensures.problem, c.in_ok-before.ensures.set, c.problem-problem.ensures, c.set-set.ensures.value) told.0.can.exposed;
      overlap = rw (c.in_ok-before.ensures.problem, c.in_ok-before.ensures.set, c.problem-problem.ensures, c.set-set.ensures.value) (overlap_before S F p (problem_of g s) M i e
          c.requires.within T c.requires.target.independent c.requires.target.size keep (vectors_of g s) (c.requires.circuit F) N c.in-Moved.out into
          told.0 told.1);
    }

pub returns-clause-found : goal.returns-clause-found
returns-clause-found g c L =
    let S = g.F.Field.scalars in
    let p = c.args.state.now.problem in
    let M = c.args.state.now.set in
    let N = c.step_toward.new.state.set in
    let T = c.args.target.now in
    let e = c.args.line in
    let into = c.in-Moved.into in
    let keep = c.args.keep.now.rows in
    let s = (goal.at.returns-clause-found g c).After-len-kept in
    let told = exchange_told S p p keep T M N c.in_ok-larger.field-0 c.in-Moved.out into refl c.in-Moved.is c.in_ok-larger.ensures.step
    c.in_ok-larger.ensures.kept in
    circuit_goes_on S L p (problem_of g s) M c.set-set.ensures.independent e c.requires.within T c.requires.target.independent c.requires.target.size keep (vectors_of g s)
    (c.requires.circuit L) N c.in-Moved.out into told.0 told.1
    (rw (c.in_ok-before.ensures.problem, c.in_ok-before.ensures.set, c.problem-problem.ensures, c.set-set.ensures.value, c.in-None.is) at c.in_ok-end-in-Moved.ensures)
