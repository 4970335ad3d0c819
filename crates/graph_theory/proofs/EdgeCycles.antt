-- Edges as blocks of two vertices: simple paths exist, in a forest one only, and a forest has no cycle.
use Rattle.std.proofs.Math.Decide.{ℕ_discrete}
use Rattle.std.proofs.Common.{◌≡◌, ◌≢◌, ℕ, inl, inr, List, [], ◌∷◌, ◌++◌, map, refl, sym, ap, ap₂, ◌∙◌, subst}
use Rattle.vector_spaces.proofs.Middles.{in_middle, in_split}
use Rattle.vector_spaces.proofs.Members.{In}
use Rattle.vector_spaces.proofs.Distinct.{IsDistinct}
use Rattle.graph_theory.specs.Labels.{Connected, GrownForest}
use Rattle.graph_theory.specs.Blocks.{all_links, Chain, chain_blocks, chain_vertices, IsBlockCycle, edge_block}
use Rattle.graph_theory.proofs.Blocks.{apart_of_pairwise}
use Rattle.graph_theory.proofs.Chains.{SimpleChain, simple_chain_exists, chain_connected}
use Rattle.graph_theory.proofs.BlockCycles.{apart_in_forest, forest_of_no_cycle, no_cycle_of_forest, last_in}

pub all_links-edges : (ends : ℕ → ℕ × ℕ) (F : List ℕ) → all_links (edge_block ends) F ≡ map ends F
all_links-edges ends [] = refl
all_links-edges ends (i ∷ F) = ap (λ z. ends i ∷ z) (all_links-edges ends F)

-- the other of two
other_same : (e : ℕ × ℕ) (p x y : ℕ) → In p (e.0 ∷ e.1 ∷ []) → In x (e.0 ∷ e.1 ∷ []) → In y (e.0 ∷ e.1 ∷ []) → x ≢ p → y ≢ p → x ≡ y
other_same e p x y (inl a) (inl b) c n m = absurd (n (b ∙ sym a))
other_same e p x y (inl a) (inr (inl b)) (inl c) n m = absurd (m (c ∙ sym a))
other_same e p x y (inl a) (inr (inl b)) (inr (inl c)) n m = b ∙ sym c
other_same e p x y (inr (inl a)) (inr (inl b)) c n m = absurd (n (b ∙ sym a))
other_same e p x y (inr (inl a)) (inl b) (inr (inl c)) n m = absurd (m (c ∙ sym a))
other_same e p x y (inr (inl a)) (inl b) (inl c) n m = b ∙ sym c
other_same e p x y (inl a) (inr (inl b)) (inr (inr h)) n m = elim h [ ]
other_same e p x y (inl a) (inr (inr h)) c n m = elim h [ ]
other_same e p x y (inr (inl a)) (inl b) (inr (inr h)) n m = elim h [ ]
other_same e p x y (inr (inl a)) (inr (inr h)) c n m = elim h [ ]
other_same e p x y (inr (inr h)) b c n m = elim h [ ]

module _ (ends : ℕ → ℕ × ℕ) where
  pub simple_path_exists : (F : List ℕ) → IsDistinct F → (s t : ℕ) → Connected (map ends F) s t → SimpleChain (edge_block ends) F s t
  simple_path_exists F d s t c = simple_chain_exists (edge_block ends) F d s t
      (subst (λ z. Connected z s t) (sym (all_links-edges ends F)) c)

  pub no_edge_cycle_of_forest : (F : List ℕ) → GrownForest (map ends F) → (p : ℕ) (ks : List (ℕ × ℕ)) →
      ¬ (IsBlockCycle (edge_block ends) F p ks)
  no_edge_cycle_of_forest F f = no_cycle_of_forest (edge_block ends) F (subst GrownForest (sym (all_links-edges ends F)) f)

  pub forest_of_no_edge_cycle : (F : List ℕ) → IsDistinct F → ((i : ℕ) → In i F → (ends i).0 ≢ (ends i).1) →
      ((p : ℕ) (ks : List (ℕ × ℕ)) → ¬ (IsBlockCycle (edge_block ends) F p ks)) → GrownForest (map ends F)
  forest_of_no_edge_cycle F d l c = subst GrownForest (all_links-edges ends F) (forest_of_no_cycle (edge_block ends) F d
      (λ i j. ((λ h. elim h [ inl e ↦ l i j e | inr k ↦ k ]), (λ h. h, tt))) c)

  -- an edge of a simple path has both ends among its vertices
  edge_off : (v : ℕ) (ks : List (ℕ × ℕ)) (q : ℕ) → Chain (edge_block ends) v ks q → IsDistinct (v ∷ chain_vertices ks) → (i p : ℕ) →
      In p (edge_block ends i) →
      ¬ (In p (v ∷ chain_vertices ks)) → ¬ (In i (chain_blocks ks))
  edge_off v [] q c d i p h n j = j
  edge_off v (k ∷ ks) q c d i p h n (inl e) = n (inr (inl (other_same (ends k.0) v p k.1 c.0
      (subst (λ z. In p (edge_block ends z)) e h) c.1 (λ a. n (inl a)) (λ a. d.0 (inl (sym a))))))
  edge_off v (k ∷ ks) q c d i p h n (inr j) = edge_off k.1 ks q c.2 d.1 i p h (λ a. n (inr a)) j

  -- two ways out of p to q by different edges: not in a forest
  fork : (F : List ℕ) → GrownForest (map ends F) → (p q : ℕ) (k m : ℕ × ℕ) (ks ms : List (ℕ × ℕ)) → k.0 ≢ m.0 →
      ((i : ℕ) → In i (chain_blocks (k ∷ ks)) → In i F) →
      ((i : ℕ) → In i (chain_blocks (m ∷ ms)) → In i F) →
      Chain (edge_block ends) p (k ∷ ks) q → Chain (edge_block ends) p (m ∷ ms) q → IsDistinct (p ∷ chain_vertices (k ∷ ks)) →
      IsDistinct (p ∷ chain_vertices (m ∷ ms)) → ⊥
  fork F f p q k m ks ms n h g c b d e = go (in_split k.0 F (h k.0 (inl refl)))
    where
      off : ¬ (In k.0 (chain_blocks ks))
      off = edge_off k.1 ks q c.2 d.1 k.0 p c.0 d.0

      off' : ¬ (In k.0 (chain_blocks (m ∷ ms)))
      off' (inl a) = n a
      off' (inr j) = edge_off m.1 ms q b.2 e.1 k.0 p c.0 e.0 j

      go : (G : List ℕ) × (H : List ℕ) × (F ≡ G ++ k.0 ∷ H) → ⊥
      go r = apart_of_pairwise (all_links (edge_block ends) (r.0 ++ r.1)) (edge_block ends k.0)
          (apart_in_forest (edge_block ends) r.0 k.0 r.1 (subst (λ z. GrownForest (all_links (edge_block ends) z)) r.2
          (subst GrownForest (sym (all_links-edges ends F)) f)))
          p k.1 c.0 c.1 (λ a. d.0 (inl a))
          (chain_connected (edge_block ends) (r.0 ++ r.1) p (m ∷ ms) q
          (λ j i. rest j (g j i) (λ a. off' (subst (λ z. In z (chain_blocks (m ∷ ms))) a i))) b
          ∙ sym (chain_connected (edge_block ends) (r.0 ++ r.1) k.1 ks q
          (λ j i. rest j (h j (inr i)) (λ a. off (subst (λ z. In z (chain_blocks ks)) a i))) c.2))
        where
          rest : (j : ℕ) → In j F → j ≢ k.0 → In j (r.0 ++ r.1)
          rest j i a = elim (in_middle r.0 k.0 r.1 j (subst (λ z. In j z) r.2 i)) [ inl z ↦ absurd (a z) | inr z ↦ z ]

  pub path_unique : (F : List ℕ) → GrownForest (map ends F) → (p q : ℕ) (ks ms : List (ℕ × ℕ)) →
      ((i : ℕ) → In i (chain_blocks ks) → In i F) →
      ((i : ℕ) → In i (chain_blocks ms) → In i F) →
      Chain (edge_block ends) p ks q → Chain (edge_block ends) p ms q → IsDistinct (p ∷ chain_vertices ks) →
      IsDistinct (p ∷ chain_vertices ms) → ks ≡ ms
  path_unique F f p q [] [] h g c b d e = refl
  path_unique F f p q [] (m ∷ ms) h g c b d e = absurd (e.0 (subst (λ z. In z (chain_vertices (m ∷ ms))) (sym c)
      (last_in (edge_block ends) p m ms q b)))
  path_unique F f p q (k ∷ ks) [] h g c b d e = absurd (d.0 (subst (λ z. In z (chain_vertices (k ∷ ks))) (sym b)
      (last_in (edge_block ends) p k ks q c)))
  path_unique F f p q (k ∷ ks) (m ∷ ms) h g c b d e = go (ℕ_discrete k.0 m.0)
      (λ b' e'. path_unique F f k.1 q ks ms (λ i j. h i (inr j)) (λ i j. g i (inr j)) c.2 b' d.1 e')
    where
      next : k.0 ≡ m.0 → k.1 ≡ m.1
      next a = other_same (ends k.0) p k.1 m.1 c.0 c.1 (subst (λ z. In m.1 (edge_block ends z)) (sym a) b.1) (λ x. d.0 (inl (sym x)))
          (λ x. e.0 (inl (sym x)))

      go : Dec (k.0 ≡ m.0) → (Chain (edge_block ends) k.1 ms q → IsDistinct (k.1 ∷ chain_vertices ms) → ks ≡ ms) → k ∷ ks ≡ m ∷ ms
      go (no n) ih = absurd (fork F f p q k m ks ms n h g c b d e)
      go (yes a) ih = ap₂ (λ x y. x ∷ y) (ap₂ (λ x y. (x, y)) a (next a))
          (ih (subst (λ z. Chain (edge_block ends) z ms q) (sym (next a)) b.2)
          (subst (λ z. IsDistinct (z ∷ chain_vertices ms)) (sym (next a)) e.1))
