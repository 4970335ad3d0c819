use Rattle.overlap.specs.Candidates.{AreCandidates}
use Rattle.overlap.proofs.candidates.candidates.Given as goal

abbrev pub invariant-loop-line : goal.invariant-loop-line
invariant-loop-line g l = AreCandidates g.F.Field.scalars l.state.problem l.state.set l.line l.found.items
