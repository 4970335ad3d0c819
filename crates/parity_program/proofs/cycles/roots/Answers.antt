use Rattle.std.proofs.Common.{◌≡◌, sym, ap, ◌∙◌, arith, length}
use Rattle.std.proofs.lemmas.Bool.{false_from_ne_true}
use Rattle.graph_theory.specs.Counts.{count, is_root, component_count}
use Rattle.graph_theory.proofs.Counts.{count-zero}
use Rattle.graph_theory.proofs.Forests.{label_of_root, root_of_label}
use Rattle.s_paths_front.proofs.Counting.{one_passes, one_fails}
use Rattle.parity_program.proofs.cycles.roots.Goals as goal
use Rattle.parity_program.proofs.cycles.roots.Goals.{then-at-vertex, else-at-vertex}

pub loop-vertex-init : goal.loop-vertex-init
loop-vertex-init c = record { value = sym (count-zero (is_root c.args.graph.now.ends)); most = omega arith }

pub loop-vertex-preserved : goal.loop-vertex-preserved
loop-vertex-preserved c =
    let E = c.args.graph.now.ends in let v = c.loop-vertex.vertex in let found = c.loop-vertex.found in
    let own = c.at.ensures ∙ c.requires.labels v (omega arith) in
    elim c.if-at-vertex.branch [
      | then-at-vertex w ↦ record {
        value = w.found-is ∙ one_passes (is_root E) v found c.loop-vertex.invariant.value
            (root_of_label E v (sym own ∙ w.if-at-vertex.true));
        most = omega arith;
      }
      | else-at-vertex w ↦ record {
        value = w.found-is ∙ one_fails (is_root E) v found c.loop-vertex.invariant.value
            (false_from_ne_true (is_root E v) (λ r. w.if-at-vertex.false (own ∙ label_of_root E v r)));
        most = omega arith;
      }
    ]

pub returns-clause-value : goal.returns-clause-value
unfolding component_count
returns-clause-value c =
    let end : c.loop-vertex.vertex ≡ length c.args.graph.now.names = omega arith in
    c.loop-vertex.invariant.value ∙ ap (λ n. count n (is_root c.args.graph.now.ends)) end
