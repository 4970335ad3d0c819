use Rattle.std.proofs.Common.{All, map, ℕ, refl, ◌<◌, ap, sym, subst, ◌∙◌, ◌++◌, [], ◌∷◌, arith, length, get_or, take, ◌≡◌, nat_eq}
use Rattle.std.specs.Prelude.{if◌then◌else◌}
use Rattle.std.proofs.lemmas.List.Elements.{All-get_or}
use Rattle.vector_spaces.proofs.Members.{all-In}
use Rattle.graph_theory.specs.Labels.{label}
use Rattle.graph_theory.specs.Walks.{Walk, IsForest}
use Rattle.graph_theory.specs.Greedy.{greedy_edges}
use Rattle.graph_theory.specs.Walks.{edge_at}
use Rattle.graph_core.specs.LabelLists.{labels}
use Rattle.graph_theory.specs.Greedy.{IsGreedyForest}
use Rattle.graph_core.proofs.LabelLists.{labels-step, labels-length, labels-at}
use Rattle.graph_theory.proofs.GreedyWalks.{greedy_is}
use Rattle.graph_core.proofs.GreedyForests.{greedy-nil, greedy_more, greedy_is_forest, greedy_spans}
use Rattle.graph_core.proofs.graph.Graph.spanning_forest.Goals as goal

pub loop-edge-init : goal.loop-edge-init
loop-edge-init c = record {
  labelled = c.in_ok-labels.ensures ∙ ap (labels []) c.vertices.ensures.value;
  greedy = c.new-kept.ensures ∙ sym (greedy-nil c.args.self.now.ends);
}

pub keep-requires-clause-count : goal.keep-requires-clause-count
keep-requires-clause-count c = labels-length (take c.loop-edge.edge c.args.self.now.ends)
    (length c.args.self.now.names) c.loop-edge.labels.items c.loop-edge.invariant.labelled

pub loop-edge-preserved : goal.loop-edge-preserved
loop-edge-preserved c =
    let g = c.args.self.now in
    let n = length g.names in
    let i = c.loop-edge.edge in
    let L = take i g.ends in
    let e = edge_at g.ends i in
    let ls = c.loop-edge.labels.items in
    let within = All-get_or (λ (e : ℕ × ℕ). (e.0 < n) × (e.1 < n)) g.ends i (0, 0) (omega arith) c.edges-edge-end.ensures.graph.within in
    let at : (v : ℕ) → v < n → get_or ls v 0 ≡ label L v = λ v l. ap (λ xs. get_or xs v 0) c.loop-edge.invariant.labelled
    ∙ labels-at L n v l in record {
      labelled = labels-step g.ends n i ls c.keep.new.labels.items e
          (omega arith) refl within.0 within.1 c.loop-edge.invariant.labelled c.in_ok-keep.ensures.joined;
      greedy = c.in_ok-keep.ensures.kept ∙ ap (λ F. F ++
          (if nat_eq (get_or ls e.0 0) (get_or ls e.1 0) then [] else i ∷ [])) c.loop-edge.invariant.greedy
          ∙ greedy_more g.ends i (get_or ls e.0 0) (get_or ls e.1 0) (omega arith) (at e.0 within.0) (at e.1 within.1);
    }

kept : (c : goal.After-drop-labels-2) → greedy_edges (edge_at c.args.self.now.ends) (length c.args.self.now.ends) ≡ c.loop-edge.kept
kept c = let end : length c.args.self.now.ends ≡ c.loop-edge.edge = omega arith in ap (greedy_edges (edge_at c.args.self.now.ends)) end
    ∙ sym c.loop-edge.invariant.greedy

pub returns-clause-greedy : goal.returns-clause-greedy
returns-clause-greedy c = subst (IsGreedyForest c.args.self.now.ends) (kept c) (greedy_is c.args.self.now.ends)

pub returns-clause-forest : goal.returns-clause-forest
returns-clause-forest c = subst (λ F. IsForest (map (edge_at c.args.self.now.ends) F)) (kept c) (greedy_is_forest c.args.self.now.ends)

pub returns-clause-spanning : goal.returns-clause-spanning
returns-clause-spanning c p q w = subst (λ F. Walk (map (edge_at c.args.self.now.ends) F) p q) (kept c)
    (greedy_spans c.args.self.now.ends p q w)

pub returns-clause-within : goal.returns-clause-within
returns-clause-within c = subst (All (λ e. e < length c.args.self.now.ends)) (kept c)
    (all-In (λ e. e < length c.args.self.now.ends) (greedy_edges (edge_at c.args.self.now.ends) (length c.args.self.now.ends))
    (greedy_is c.args.self.now.ends).edges)
