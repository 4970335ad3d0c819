use Rattle.std.proofs.Common.{◌++◌, [], ◌∷◌, ap, ap₂, sym, ◌∙◌, arith}
use Rattle.edge_lists.specs.Occurrences.{without}
use Rattle.edge_lists.proofs.Occurrences.{without-nil}
use Rattle.genus_front.proofs.EdgeLists.{without-take}
use Rattle.genus_front.proofs.lists.outside.Goals as goal

pub loop-i-init : goal.loop-i-init
loop-i-init c = c.new-list.ensures ∙ sym (without-nil c.args.others.now)

pub loop-i-preserved : goal.loop-i-preserved
loop-i-preserved c = c.in_ok-push_outside.ensures
    ∙ ap₂ (λ s t. s ++ t) c.loop-i.invariant (ap (λ e. without c.args.others.now (e ∷ [])) c.at.ensures)
    ∙ sym (without-take c.args.others.now c.args.edges.now c.loop-i.i (omega (arith, c.loop-i-test.true, c.len-i-end.ensures)))
