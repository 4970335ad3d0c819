use Rattle.std.proofs.Common.{◌<◌, length, All}
use Rattle.search.specs.Found.{KeepsSize}
use Rattle.search.specs.Meetings.{IsOver}
use Rattle.search.specs.Notes.{AreNotes}
use Rattle.search.specs.Walks.{IsTrail}
use Rattle.search.proofs.walking.walk.Given as goal

abbrev pub invariant-loop-step : goal.invariant-loop-step
invariant-loop-step g l = record {
  keeps : KeepsSize l.initial.state l.state;
  order : All (λ m. m < length l.state.problem.lines) l.order;
  over : IsOver l.state l.meeting;
  notes : AreNotes g.F.Field.scalars l.state.problem l.state.set l.notes;
  trail : IsTrail (length l.state.problem.lines) l.trail;
}
