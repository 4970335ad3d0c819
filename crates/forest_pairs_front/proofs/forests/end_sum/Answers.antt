use Rattle.std.proofs.Common.{length}
use Rattle.graph_theory.specs.Walks.{edge_at}
use Rattle.forest_pairs_front.proofs.EndSums.{end_sum-added, end_sum-long}
use Rattle.forest_pairs_front.proofs.forests.end_sum.Goals as goal

pub returns-clause-value : goal.returns-clause-value
returns-clause-value g c =
    end_sum-added g.F.Field.scalars g.met.F.Field.lawful (length c.args.graph.now.names) g.F.Field.number c.ends-first.result
    (edge_at c.args.graph.now.ends c.args.edge) c.vertices-vertices.result (g.F.Field.number c.one.result)
    c.in_ok-sum.sum c.add_multiple.new.self c.deref.result.now c.in_ok-unit_vector.field-0.items
    c.deref-2.result.now c.in_ok-unit_vector-2.field-0.items
    c.ends-first.ensures.value c.vertices-vertices.ensures.value c.one.ensures c.add_multiple.ensures c.in_ok-sum.ensures
    c.deref.ensures.value c.in_ok-unit_vector.ensures.value c.deref-2.ensures.value c.in_ok-unit_vector-2.ensures.value

pub returns-clause-long : goal.returns-clause-long
returns-clause-long g c = end_sum-long g.F.Field.scalars g.met.F.Field.lawful (length c.args.graph.now.names)
    (edge_at c.args.graph.now.ends c.args.edge) c.add_multiple.new.self (returns-clause-value g c)
