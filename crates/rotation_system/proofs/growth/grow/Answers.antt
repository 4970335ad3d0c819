use Rattle.std.proofs.Common.{◌<◌, ◌-◌, get_or, length, sym, subst, arith}
use Rattle.vector_spaces.proofs.Members.{In-all, In-get_or}
use Rattle.graph_theory.specs.Walks.{edge_at}
use Rattle.rotation_system.proofs.TreeGrowth.{grown_all, grown_at, grown_start}
use Rattle.rotation_system.proofs.growth.grow.Goals as goal

small : (c : goal.After-at-edge) → c.at-edge.result < length c.args.graph.now.ends
small c = subst (λ e. e < length c.args.graph.now.ends) (sym c.at-edge.ensures) (In-all (λ e. e < length c.args.graph.now.ends)
    c.args.tree.now
    c.requires.edges (get_or c.args.tree.now (c.tree.left - 1) 0)
    (In-get_or c.args.tree.now (c.tree.left - 1) 0 (omega (arith, c.tree.invariant.within))))

pub tree-init : goal.tree-init
tree-init c = record {
  within = omega arith;
  grown = grown_start (edge_at c.args.graph.now.ends) (length c.args.graph.now.names) c.args.tree.now c.len-left.result c.args.lists.now
      c.len-left.ensures c.requires.none;
  least = c.requires.least;
}

pub ends-ends-requires : goal.ends-ends-requires
ends-ends-requires c = small c

pub tree-preserved : goal.tree-preserved
tree-preserved c = record {
  within = omega (arith, c.tree.invariant.within);
  grown = grown_at c.args.graph.now.ends (length c.args.graph.now.names) c.args.tree.now c.tree.left c.at-edge.result c.ends-ends.result
      c.tree.lists c.put_last.new.lists c.requires.tree.forest (omega arith) c.tree.invariant.within c.at-edge.ensures
      c.ends-ends.ensures.value
      (c.ends-ends.ensures.first_vertex, c.ends-ends.ensures.second_vertex) c.in_ok-put_last.ensures.put c.tree.invariant.grown;
  least = c.in_ok-put_last.ensures.least;
}

pub returns-clause-grown : goal.returns-clause-grown
returns-clause-grown c = grown_all (edge_at c.args.graph.now.ends) (length c.args.graph.now.names) c.args.tree.now c.tree.left c.tree.lists
    (omega arith) c.tree.invariant.grown
