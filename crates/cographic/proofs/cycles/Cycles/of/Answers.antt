use Rattle.std.proofs.Common.{◌≡◌, ◌<◌, All, ℕ, List, length, ap, sym, subst, ◌∙◌}
use Rattle.std.specs.Prelude.{IfOk}
use Rattle.std.specs.List.{range_with_len}
use Rattle.graph_theory.specs.Walks.{edge_at}
use Rattle.edge_lists.specs.EdgeNumbers.{edge_numbers}
use Rattle.edge_lists.specs.Occurrences.{without}
use Rattle.cographic.specs.Cycles.{AreCycles}
use Rattle.cographic.proofs.MarkLists.{others_below}
use Rattle.cographic.proofs.cycles.Cycles.of.Goals as goal

pub of-requires : goal.of-requires
of-requires c = subst (λ n. All (λ e. e < n) c.args.tree.now) (sym c.edges.ensures.value) c.requires.edges

others : (E : List (ℕ × ℕ)) (T gs : List ℕ) (n : ℕ) → n ≡ length E → gs ≡ without T (range_with_len 0 n) → gs ≡ without T (edge_numbers E)
others E T gs n q r = r ∙ ap (λ k. without T (range_with_len 0 k)) q

pub cycles_of-requires-clause-others : goal.cycles_of-requires-clause-others
cycles_of-requires-clause-others c =
    let E = c.args.graph.now.ends in
    let T = c.args.tree.now in
    subst (All (λ e. e < length E)) (sym (others E T c.in_ok-others.others c.edges-2.result c.edges-2.ensures.value
    (c.in_ok-others.ensures T c.in_ok-inside.ensures.members))) (others_below E T)

pub returns : goal.returns
returns c =
    let E = c.args.graph.now.ends in
    let T = c.args.tree.now in
    subst (λ K. IfOk c.cycles_of.result (AreCycles (edge_at E) (length E) T K)) (others E T c.in_ok-others.others c.edges-2.result
    c.edges-2.ensures.value (c.in_ok-others.ensures T c.in_ok-inside.ensures.members)) c.cycles_of.ensures
