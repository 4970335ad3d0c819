use Rattle.std.proofs.Common.{◌≡◌, sym, ap, ◌∙◌, arith, length, is_some}
use Rattle.graph_theory.specs.Counts.{count}
use Rattle.graph_theory.proofs.Counts.{count-zero}
use Rattle.path_theory.specs.Classes.{is_terminal}
use Rattle.s_paths_front.proofs.Counting.{one_passes, one_fails}
use Rattle.s_paths_front.proofs.counts.terminals.Goals as goal
use Rattle.s_paths_front.proofs.counts.terminals.Goals.{then-is_some, else-is_some}

pub loop-vertex-init : goal.loop-vertex-init
loop-vertex-init c = record { value = sym (count-zero (is_terminal c.args.graph.now.classes)); most = omega arith }

pub loop-vertex-preserved : goal.loop-vertex-preserved
loop-vertex-preserved c =
    let P = is_terminal c.args.graph.now.classes in let v = c.loop-vertex.vertex in let found = c.loop-vertex.found in
    elim c.if-is_some.branch [
      | then-is_some w ↦ record {
        value = w.found-is ∙ one_passes P v found c.loop-vertex.invariant.value (ap is_some (sym c.class.ensures) ∙ sym c.is_some.ensures
            ∙ w.if-is_some.true);
        most = omega arith;
      }
      | else-is_some w ↦ record {
        value = w.found-is ∙ one_fails P v found c.loop-vertex.invariant.value (ap is_some (sym c.class.ensures) ∙ sym c.is_some.ensures
            ∙ w.if-is_some.false);
        most = omega arith;
      }
    ]

pub returns-clause-value : goal.returns-clause-value
returns-clause-value c = let end : c.loop-vertex.vertex ≡ length c.args.graph.now.names = omega arith in
    c.loop-vertex.invariant.value ∙ ap (λ n. count n (is_terminal c.args.graph.now.classes)) end
