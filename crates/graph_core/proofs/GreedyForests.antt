-- The greedy forest, found edge by edge from the labels.
use Rattle.std.proofs.Common.{◌≡◌, ℕ, zero, suc, ◌+◌, ◌<◌, ◌≤◌, ◌⊎◌, inl, inr, List, [], ◌∷◌, ◌++◌, length, take, nat_eq, refl, sym, ap, ◌∙◌, arith, add-one, append-nil}
use Rattle.std.specs.Prelude.{if◌then◌else◌}
use Rattle.std.proofs.lemmas.Bool.{ne_eqb, eq-eqb}
use Rattle.std.proofs.lemmas.List.{take_more, take_all}
use Rattle.graph_theory.specs.Labels.{merged, label, Connected}
use Rattle.graph_theory.specs.Walks.{edge_at, Walk, IsForest}
use Rattle.graph_theory.specs.Greedy.{edges_below, greedy_edges}
use Rattle.graph_theory.proofs.Labels.{label-cons}
use Rattle.graph_theory.proofs.Shuffles.{label-snoc}
use Rattle.graph_theory.proofs.Greedy.{kept, greedy-step, greedy_connects, greedy_forest}
use Rattle.graph_theory.proofs.Walks.{connected_of_walk, walk_of_connected, forest_of_grown}

module _ (E : List (ℕ × ℕ)) where
  pub greedy-nil : greedy_edges (edge_at E) zero ≡ []
  unfolding greedy_edges
  greedy-nil = refl

  below_labels : (i w : ℕ) → i ≤ length E → label (edges_below (edge_at E) i) w ≡ label (take i E) w
  unfolding edges_below
  below_labels zero w l = refl
  below_labels (suc i) w l =
      let ih : (v : ℕ) → label (edges_below (edge_at E) i) v ≡ label (take i E) v = λ v. below_labels i v (omega arith) in
      let e = edge_at E i in
      label-cons e (edges_below (edge_at E) i) w ∙ (λ j. merged (ih e.0 j) (ih e.1 j) (ih w j)) ∙ sym (label-cons e (take i E) w)
      ∙ sym (label-snoc (take i E) e w)
      ∙ ap (λ K. label K w) (sym (take_more E i (0, 0) (omega arith)) ∙ ap (λ n. take n E) (add-one i))

  -- the edges kept so far have the labels of all edges so far
  kept_labels : (i w : ℕ) → i ≤ length E → label (kept (edge_at E) i) w ≡ label (take i E) w
  kept_labels i w l = greedy_connects (edge_at E) i w ∙ below_labels i w l

  -- edge i is kept where the labels a and b of its ends differ
  pub greedy_more : (i a b : ℕ) → i < length E → a ≡ label (take i E) (edge_at E i).0 → b ≡ label (take i E) (edge_at E i).1 →
      greedy_edges (edge_at E) i ++ (if nat_eq a b then [] else i ∷ []) ≡ greedy_edges (edge_at E) (i + 1)
  greedy_more i a b l p q = go (greedy-step (edge_at E) i)
    where
      first : label (kept (edge_at E) i) (edge_at E i).0 ≡ a
      first = kept_labels i (edge_at E i).0 (omega arith) ∙ sym p

      second : label (kept (edge_at E) i) (edge_at E i).1 ≡ b
      second = kept_labels i (edge_at E i).1 (omega arith) ∙ sym q

      go : (Connected (kept (edge_at E) i) (edge_at E i).0 (edge_at E i).1 ×
          (greedy_edges (edge_at E) (suc i) ≡ greedy_edges (edge_at E) i)) ⊎
          (¬ (Connected (kept (edge_at E) i) (edge_at E i).0 (edge_at E i).1) ×
          (greedy_edges (edge_at E) (suc i) ≡ greedy_edges (edge_at E) i ++ i ∷ [])) →
          greedy_edges (edge_at E) i ++ (if nat_eq a b then [] else i ∷ []) ≡ greedy_edges (edge_at E) (i + 1)
      go (inl s) = ap (λ t. greedy_edges (edge_at E) i ++ (if t then [] else i ∷ [])) (eq-eqb a b (sym first ∙ s.0 ∙ second))
          ∙ append-nil (greedy_edges (edge_at E) i) ∙ sym s.1 ∙ ap (greedy_edges (edge_at E)) (sym (add-one i))
      go (inr s) = ap (λ t. greedy_edges (edge_at E) i ++ (if t then [] else i ∷ [])) (ne_eqb a b (λ e. s.0 (first ∙ e ∙ sym second)))
          ∙ sym s.1
          ∙ ap (greedy_edges (edge_at E)) (sym (add-one i))

  pub greedy_is_forest : IsForest (kept (edge_at E) (length E))
  greedy_is_forest = forest_of_grown (kept (edge_at E) (length E)) (greedy_forest (edge_at E) (length E))

  pub greedy_spans : (p q : ℕ) → Walk E p q → Walk (kept (edge_at E) (length E)) p q
  greedy_spans p q w = walk_of_connected (kept (edge_at E) (length E)) p q (all p ∙ connected_of_walk E p q w ∙ sym (all q))
    where
      all : (v : ℕ) → label (kept (edge_at E) (length E)) v ≡ label E v
      all v = kept_labels (length E) v (omega arith) ∙ ap (λ K. label K v) (take_all (length E) E (omega arith))
