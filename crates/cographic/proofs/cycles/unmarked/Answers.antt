use Rattle.std.proofs.Common.{◌++◌, ap₂, sym, ◌∙◌, arith}
use Rattle.edge_lists.proofs.Occurrences.{without-nil}
use Rattle.cographic.proofs.MarkLists.{where_unmarked-is, without_more}
use Rattle.cographic.proofs.cycles.unmarked.Goals as goal

pub loop-edge-init : goal.loop-edge-init
loop-edge-init c T h = c.new-list.ensures ∙ sym (without-nil T)

pub loop-edge-preserved : goal.loop-edge-preserved
loop-edge-preserved c T h = c.in_ok-push_unmarked.ensures
    ∙ ap₂ (λ s t. s ++ t) (c.loop-edge.invariant T h) (where_unmarked-is T c.args.marks.now c.loop-edge.edge h (omega arith))
    ∙ sym (without_more T c.loop-edge.edge)
