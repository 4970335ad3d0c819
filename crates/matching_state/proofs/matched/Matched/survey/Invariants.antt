use Rattle.std.proofs.Common.{All}
use Rattle.matching_state.specs.Classes.{AreDifferent}
use Rattle.matching_state.specs.Surveys.{AreExposed}
use Rattle.matching_state.proofs.NumberLaws.{HasNumber}
use Rattle.matching_state.proofs.matched.Matched.survey.Given as goal

abbrev pub invariant-loop-line : goal.invariant-loop-line
invariant-loop-line g l =
    let S = g.F.Field.scalars in
    AreExposed S g.F.Field.number l.self.problem l.self.set l.line l.entries.items × AreDifferent l.classes × All (HasNumber S l.self l.classes) l.entries.items
