use Rattle.std.proofs.Common.{[], ◌∷◌, ◌++◌, sym, ap₂, ◌∙◌, arith}
use Rattle.std.proofs.lemmas.List.{take_more}
use Rattle.rotation_system.proofs.lists.Lists.copy.Goals as goal

pub loop-vertex-preserved : goal.loop-vertex-preserved
loop-vertex-preserved c = c.in_ok-push.ensures.items ∙ ap₂ (λ s t. s ++ t ∷ []) c.loop-vertex.invariant
    (c.in_ok-list.ensures ∙ c.at.ensures)
    ∙ sym (take_more c.args.self.now c.loop-vertex.vertex [] (omega arith))
