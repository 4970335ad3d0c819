use Rattle.parity_program.proofs.graph_reader.graph_with_few_triangles.Goals as goal

pub within_triangles-requires : goal.within_triangles-requires
within_triangles-requires c = (c.graphs_are_within_limits.ensures.limits 128 _ _ _ _ c.in_ok-graph.ensures.gives).1
