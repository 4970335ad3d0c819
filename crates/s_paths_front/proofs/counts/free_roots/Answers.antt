use Rattle.std.proofs.Common.{◌≡◌, ℕ, Bool, sym, ap, ◌∙◌, arith, length}
use Rattle.std.specs.Prelude.{◌&&◌, not}
use Rattle.graph_theory.specs.Counts.{count, is_root}
use Rattle.graph_theory.proofs.Counts.{count-zero}
use Rattle.path_theory.specs.Classes.{is_terminal}
use Rattle.path_theory.specs.Terminals.{free_components, is_terminal_with, some_below}
use Rattle.graph_core.specs.NamedGraphs.{NamedGraph}
use Rattle.s_paths_front.proofs.Counting.{one_passes, one_fails}
use Rattle.s_paths_front.proofs.counts.free_roots.Goals as goal
use Rattle.s_paths_front.proofs.counts.free_roots.Goals.{then-is_free_root, else-is_free_root}

abbrev is_free : NamedGraph → ℕ → Bool
is_free g w = is_root g.ends w && not (some_below (length g.names) (is_terminal_with (is_terminal g.classes) g.ends w))

pub loop-vertex-init : goal.loop-vertex-init
loop-vertex-init c = record { value = sym (count-zero (is_free c.args.graph.now)); most = omega arith }

pub loop-vertex-preserved : goal.loop-vertex-preserved
loop-vertex-preserved c =
    let P = is_free c.args.graph.now in let v = c.loop-vertex.vertex in let free = c.loop-vertex.free in
    elim c.if-is_free_root.branch [
      | then-is_free_root w ↦ record {
        value = w.free-is ∙ one_passes P v free c.loop-vertex.invariant.value (sym c.is_free_root.ensures ∙ w.if-is_free_root.true);
        most = omega arith;
      }
      | else-is_free_root w ↦ record {
        value = w.free-is ∙ one_fails P v free c.loop-vertex.invariant.value (sym c.is_free_root.ensures ∙ w.if-is_free_root.false);
        most = omega arith;
      }
    ]

pub returns : goal.returns
unfolding free_components
returns c = let end : c.loop-vertex.vertex ≡ length c.args.graph.now.names = omega arith in
    c.loop-vertex.invariant.value ∙ ap (λ n. count n (is_free c.args.graph.now)) end
