use Rattle.std.proofs.Common.{◌+◌, ◌-◌, ◌*◌, length}
use Rattle.parity_lines.specs.Problems.{vectors_at}
use Rattle.augment.proofs.Meetings.{IsBounded}
use Rattle.augment.specs.FirstSets.{KeepsFirst, first_of}
use Rattle.augment.proofs.recursion.+recursion.Given as goal

abbrev pub decreases-step_modulo : goal.decreases-step_modulo
decreases-step_modulo g l = 3 * l.family.now.problem.dimension

abbrev pub decreases-step_by_meeting : goal.decreases-step_by_meeting
decreases-step_by_meeting g l = 3 * l.family.now.problem.dimension + 1

abbrev pub decreases-step_from : goal.decreases-step_from
decreases-step_from g l = 3 * l.family.now.problem.dimension + 2

abbrev pub invariant-step_by_meeting-points : goal.invariant-step_by_meeting-points
invariant-step_by_meeting-points g l = record {
  keeps : KeepsFirst l.initial.family l.family;
  bounded : IsBounded g.F.Field.scalars l.family (length (vectors_at l.initial.family.problem (first_of l.initial.family)) + length
      l.initial.family.sets);
}

abbrev pub decreases-step_by_meeting-points : goal.decreases-step_by_meeting-points
decreases-step_by_meeting-points g l =
    length (vectors_at l.initial.family.problem (first_of l.initial.family)) + length l.initial.family.sets - length l.family.sets
