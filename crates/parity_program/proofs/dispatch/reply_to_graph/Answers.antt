use Rattle.parity_program.proofs.GraphsFor.{few_vertices, suits}
use Rattle.parity_program.proofs.dispatch.reply_to_graph.Goals as goal
use Rattle.parity_program.specs.Inputs.Input.{of_graph}

pub fit-requires : goal.fit-requires
fit-requires c =
    few_vertices c.graphs_are_within_limits.ensures.limits c.graphs_are_within_limits.ensures.classes _ _ _ _ _ c.in_ok-graph.ensures.gives

pub reply_of_graph-requires : goal.reply_of_graph-requires
reply_of_graph-requires c =
    rw c.object-object.ensures at
    (suits c.graphs_are_within_limits.ensures.limits c.graphs_are_within_limits.ensures.classes _ _ _ _ _ c.in_ok-graph.ensures.gives
    c.in_ok-fit.ensures.admits)

pub returns-clause-replies : goal.returns-clause-replies
returns-clause-replies c =
    let gives = rw (c.object-object.ensures, c.new-lexer.ensures.bytes, c.new-lexer.ensures.ahead) at c.in_ok-graph.ensures.gives in
    let x = of_graph c.args.command c.in_ok-graph.graph in
    let passes = rw c.object-object.ensures at (c.in_ok-fit.ensures.admits x) in
    (x, rw gives passes, c.in_ok-reply_of_graph.ensures)
