use Rattle.std.proofs.Common.{◌∷◌, [], ◌++◌, ap₂, sym, ◌∙◌, arith}
use Rattle.std.proofs.lemmas.List.{take_more, take_all}
use Rattle.cactus_front.proofs.cactus.copy_of.Goals as goal

pub loop-i-preserved : goal.loop-i-preserved
loop-i-preserved c = c.in_ok-push.ensures.ok ∙ ap₂ (λ xs x. xs ++ x ∷ []) c.loop-i.invariant c.at.ensures ∙ sym (take_more c.args.list.now c.loop-i.i 0 (omega arith))

pub returns : goal.returns
returns c = c.loop-i.invariant ∙ take_all c.loop-i.i c.args.list.now (omega arith)
