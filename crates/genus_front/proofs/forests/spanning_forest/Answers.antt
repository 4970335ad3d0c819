use Rattle.std.proofs.Common.{◌<◌, length, take, subst, sym, ap, ◌++◌, ◌∷◌, [], ◌∙◌, arith}
use Rattle.std.proofs.lemmas.List.{take_more}
use Rattle.std.proofs.lemmas.List.Elements.{All-take}
use Rattle.graph_theory.specs.Walks.{edge_at}
use Rattle.genus_front.specs.SpanningForests.{IsSpanningForest}
use Rattle.genus_front.proofs.SpanningForests.{forest_below}
use Rattle.genus_front.proofs.forests.spanning_forest.Goals as goal

pub keep-requires-clause-edges : goal.keep-requires-clause-edges
keep-requires-clause-edges c = forest_below (edge_at c.args.graph.now.ends) (length c.args.graph.now.ends) (take c.loop-i.i c.args.edges.now)
    c.loop-i.forest c.loop-i.invariant (All-take (λ e. e < length c.args.graph.now.ends) c.loop-i.i c.args.edges.now c.requires)

pub loop-i-preserved : goal.loop-i-preserved
loop-i-preserved c =
    let K = c.args.edges.now in
    subst (λ t. IsSpanningForest (edge_at c.args.graph.now.ends) t c.keep.new.forest)
    (ap (λ e. take c.loop-i.i K ++ e ∷ []) c.at.ensures
    ∙ sym (take_more K c.loop-i.i 0 (omega (arith, c.loop-i-test.true, c.len-i-end.ensures))))
    (c.in_ok-keep.ensures (take c.loop-i.i K) c.loop-i.invariant)
