use Rattle.std.proofs.Common.{◌++◌, ◌∷◌, [], ap, ◌∙◌}
use Rattle.graph_core.proofs.LabelLists.{own-more}
use Rattle.graph_core.proofs.components.own_labels.Goals as goal

pub loop-vertex-preserved : goal.loop-vertex-preserved
loop-vertex-preserved c = c.in_ok-push.ensures.items ∙ ap (λ xs. xs ++ c.loop-vertex.vertex ∷ []) c.loop-vertex.invariant
    ∙ own-more c.loop-vertex.vertex
