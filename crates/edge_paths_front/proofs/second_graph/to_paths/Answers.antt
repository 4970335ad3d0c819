use Rattle.std.proofs.Common.{◌+◌, length, ap, ◌∙◌}
use Rattle.std.specs.Fmt.{decimal}
use Rattle.graph_core.specs.NamedGraphs.{NamedGraph}
use Rattle.edge_paths_front.proofs.EdgeSteps.{darts_counted}
use Rattle.edge_paths_front.proofs.second_graph.to_paths.Goals as goal

pub put_reverses-requires : goal.put_reverses-requires
put_reverses-requires c = let m = length c.args.graph.now.ends in
    ap (λ (z : NamedGraph). length z.names) c.in_ok-second.ensures ∙ darts_counted decimal (m + m)

pub put_others-requires : goal.put_others-requires
put_others-requires c = let m = length c.args.graph.now.ends in ap (λ (z : NamedGraph). length z.names) c.in_ok-put_reverses.ensures
    ∙ ap (λ (z : NamedGraph). length z.names) c.in_ok-second.ensures ∙ darts_counted decimal (m + m)
