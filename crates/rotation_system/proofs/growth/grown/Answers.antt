use Rattle.std.proofs.Common.{[], length, replicate, ap, ◌∙◌}
use Rattle.graph_theory.specs.Walks.{edge_at}
use Rattle.rotation_system.proofs.TreeGrowth.{all_least, none_grown}
use Rattle.rotation_system.proofs.growth.grown.Goals as goal

pub grow-requires-clause-none : goal.grow-requires-clause-none
grow-requires-clause-none c = none_grown (edge_at c.args.graph.now.ends) (length c.args.graph.now.names) c.in_ok-lists.lists
    (c.in_ok-lists.ensures ∙ ap (λ n. replicate n []) c.vertices.ensures.value)

pub grow-requires-clause-least : goal.grow-requires-clause-least
grow-requires-clause-least c = all_least c.vertices.result c.in_ok-lists.lists c.in_ok-lists.ensures
