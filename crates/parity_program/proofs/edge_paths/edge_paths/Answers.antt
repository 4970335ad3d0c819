use Rattle.std.proofs.Common.{subst, sym}
use Rattle.graph_core.specs.NamedGraphs.{NamedGraph}
use Rattle.parity_program.proofs.EdgePaths.{darts_within, second_classes}
use Rattle.parity_program.proofs.Written.{is_done}
use Rattle.parity_program.proofs.edge_paths.edge_paths.Goals as goal
use Rattle.parity_program.specs.Shown.{HasFewClasses}
use Rattle.path_theory.specs.Classes.{class_of, is_terminal}
use Rattle.path_theory.specs.Families.{IsLargestPathFamily, IsPathFamily}

pub to_parity-requires : goal.to_parity-requires
to_parity-requires c = subst HasFewClasses (sym c.in_ok-second.ensures) (second_classes c.args.graph.now c.requires.classes)

pub from_set-requires-clause-classes : goal.from_set-requires-clause-classes
from_set-requires-clause-classes c =
    subst HasFewClasses (sym c.in_ok-second.ensures) (second_classes c.args.graph.now c.requires.classes)

pub from_set-requires-clause-set : goal.from_set-requires-clause-set
from_set-requires-clause-set c = rw (← c.in_ok-converted.ensures.problem) c.in_ok-answer.ensures.good.independent_set

pub from_paths-requires-clause-family : goal.from_paths-requires-clause-family
from_paths-requires-clause-family c =
    subst (λ (g : NamedGraph). IsPathFamily g.ends (is_terminal g.classes) (class_of g.classes) c.in_ok-disjoint.disjoint)
    c.in_ok-second.ensures c.in_ok-disjoint.ensures.family

pub write_edge_paths-requires : goal.write_edge_paths-requires
write_edge_paths-requires c = darts_within _ _ _ _ _ c.in_ok-paths.ensures.family

pub returns : goal.returns
returns c = (
  c.in_ok-paths.paths,
  c.in_ok-paths.ensures.largest
      (subst (λ (g : NamedGraph). IsLargestPathFamily g.ends (is_terminal g.classes) (class_of g.classes) c.in_ok-disjoint.disjoint)
      c.in_ok-second.ensures
      (c.in_ok-disjoint.ensures.largest (rw (← c.in_ok-converted.ensures.problem) c.in_ok-answer.ensures.largest))),
  c.in_ok-paths.ensures.ordered,
  is_done _ _ _ _ c.done.ensures c.new-text.ensures.items c.in_ok-write_edge_paths.ensures,
)
