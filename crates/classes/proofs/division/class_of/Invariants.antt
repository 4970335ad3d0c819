use Rattle.std.proofs.Common.{◌≡◌}
use Rattle.class_theory.proofs.Classes.{class_lines}
use Rattle.classes.specs.Divisions.{listing}
use Rattle.classes.proofs.DivisionLaws.{label_of}
use Rattle.classes.proofs.division.class_of.Given as goal

abbrev pub invariant-loop-line : goal.invariant-loop-line
invariant-loop-line l = l.class ≡ class_lines (label_of l.labels) (listing l.line) l.label
