use Rattle.std.proofs.Common.{◌≤◌, All, drop, length}
use Rattle.graph_theory.specs.Walks.{edge_at}
use Rattle.rotation_system.specs.GrownTrees.{IsGrown}
use Rattle.rotation_system.specs.RotationSystems.{BeginsWithLeast}
use Rattle.rotation_system.proofs.growth.grow.Given as goal

abbrev pub invariant-tree : goal.invariant-tree
invariant-tree l = record {
  within : l.left ≤ length l.tree;
  grown : IsGrown (edge_at l.graph.ends) (length l.graph.names) (drop l.left l.tree) l.lists;
  least : All BeginsWithLeast l.lists;
}

abbrev pub decreases-tree : goal.decreases-tree
decreases-tree l = l.left
