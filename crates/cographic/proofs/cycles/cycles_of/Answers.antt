use Rattle.std.proofs.Common.{◌<◌, get_or, length, subst, arith}
use Rattle.std.proofs.lemmas.List.{take_all}
use Rattle.vector_spaces.proofs.Members.{In-all, In-get_or}
use Rattle.graph_theory.specs.Walks.{edge_at}
use Rattle.cographic.specs.Cycles.{AreCycles}
use Rattle.cographic.proofs.MarkLists.{cycles_more}
use Rattle.cographic.proofs.cycles.cycles_of.Goals as goal

pub cycle_of-requires-clause-edge : goal.cycle_of-requires-clause-edge
cycle_of-requires-clause-edge c = let l = In-all (λ e. e < length c.args.graph.now.ends) c.args.others.now c.requires.others
    (get_or c.args.others.now c.loop-i.i 0) (In-get_or c.args.others.now c.loop-i.i 0 (omega arith)) in omega (arith, l, c.at.ensures)

pub loop-i-preserved : goal.loop-i-preserved
loop-i-preserved c = cycles_more (edge_at c.args.graph.now.ends) (length c.args.graph.now.ends) c.args.tree.now c.args.others.now c.loop-i.i
    c.at.result c.loop-i.cycles.items c.push.new.self.items c.in_ok-cycle.cycle (omega arith) c.at.ensures c.in_ok-push.ensures.items
    c.loop-i.invariant c.in_ok-cycle.ensures

pub returns : goal.returns
returns c = subst (λ K. AreCycles (edge_at c.args.graph.now.ends) (length c.args.graph.now.ends) c.args.tree.now K c.loop-i.cycles.items)
    (take_all c.loop-i.i c.args.others.now (omega arith)) c.loop-i.invariant
