use Rattle.std.proofs.Common.{ap, ◌∙◌, arith, length, take, ◌≡◌, []}
use Rattle.graph_core.specs.LabelLists.{labels}
use Rattle.graph_core.proofs.LabelLists.{labels-step, labels-length, labels-least, labels-whole}
use Rattle.graph_core.proofs.graph.Graph.components.Goals as goal

pub loop-edge-init : goal.loop-edge-init
loop-edge-init c = c.in_ok-labels.ensures ∙ ap (labels []) c.vertices.ensures.value

pub join-requires-clause-first_vertex : goal.join-requires-clause-first_vertex
join-requires-clause-first_vertex c = let n = labels-length (take c.loop-edge.edge c.args.self.now.ends)
    (length c.args.self.now.names) c.loop-edge.labels.items c.loop-edge.invariant in omega arith

pub join-requires-clause-second_vertex : goal.join-requires-clause-second_vertex
join-requires-clause-second_vertex c = let n = labels-length (take c.loop-edge.edge c.args.self.now.ends)
    (length c.args.self.now.names) c.loop-edge.labels.items c.loop-edge.invariant in omega arith

pub loop-edge-preserved : goal.loop-edge-preserved
loop-edge-preserved c =
    labels-step c.args.self.now.ends (length c.args.self.now.names) c.loop-edge.edge c.loop-edge.labels.items c.join.new.labels.items
    c.ends-first.result (omega arith) c.ends-first.ensures.value
    c.ends-first.ensures.first_vertex c.ends-first.ensures.second_vertex c.loop-edge.invariant c.join.ensures.joined

whole : (c : goal.After-of) → c.of.result ≡ labels c.args.self.now.ends (length c.args.self.now.names)
whole c = c.of.ensures ∙ labels-whole c.args.self.now.ends (length c.args.self.now.names) c.loop-edge.edge c.loop-edge.labels.items
    (omega arith) c.loop-edge.invariant

pub returns-clause-count : goal.returns-clause-count
returns-clause-count c = labels-length c.args.self.now.ends (length c.args.self.now.names) c.of.result (whole c)

pub returns-clause-least : goal.returns-clause-least
returns-clause-least c = labels-least c.args.self.now.ends (length c.args.self.now.names) c.of.result (whole c)
