use Rattle.std.proofs.Common.{◌++◌, [], ◌∷◌, ap, sym, ◌∙◌}
use Rattle.edge_lists.proofs.EdgeNumbers.{range-more}
use Rattle.genus_front.proofs.lists.all_edges.Goals as goal

pub loop-edge-preserved : goal.loop-edge-preserved
loop-edge-preserved c = c.in_ok-push.ensures.ok ∙ ap (λ t. t ++ c.loop-edge.edge ∷ []) c.loop-edge.invariant
    ∙ sym (range-more c.loop-edge.edge)
