use Rattle.std.proofs.Common.{◌+◌, IsTrue, false, length, get_or, take, arith, sym, ◌∙◌, ap, subst}
use Rattle.std.specs.Prelude.{◌↔◌}
use Rattle.graph_theory.specs.Walks.{AreAdjacent}
use Rattle.graph_core.specs.Gathered.{marked_by}
use Rattle.graph_core.proofs.Marks.{marked_more, length-marked_by}
use Rattle.graph_core.proofs.neighbours.neighbours_of.Goals as goal

pub loop-edge-preserved : goal.loop-edge-preserved
loop-edge-preserved c =
    let E = c.args.graph.now.ends in
    let i = c.loop-edge.edge in
    let v = c.args.vertex in
    let marks = c.loop-edge.marks.items in
    let same = c.mark.ensures ∙ ap (λ e. marked_by marks e v) c.ends.ensures.value in record {
      long = ap length same ∙ length-marked_by marks (get_or E i (0, 0)) v ∙ c.loop-edge.invariant.long;
      marked = λ b l. subst (λ (xs : _). IsTrue (get_or xs b false) ↔ AreAdjacent (take (i + 1) E) v b) (sym same)
          (marked_more E i v b marks (omega arith) (omega arith) (c.loop-edge.invariant.marked b l));
    }
