-- Blocks are a forest exactly where no block has a vertex twice and none of their lists is cyclic.
use Rattle.std.proofs.Common.{◌≡◌, ◌≢◌, ℕ, ◌≤◌, inl, inr, List, [], ◌∷◌, ◌++◌, length, refl, sym, subst, arith, length-append}
use Rattle.vector_spaces.proofs.Middles.{in_middle, in_split}
use Rattle.vector_spaces.proofs.Members.{In, In-append, In-append_left, In-append_right}
use Rattle.vector_spaces.proofs.Distinct.{IsDistinct}
use Rattle.graph_theory.specs.Labels.{GrownForest}
use Rattle.graph_theory.specs.Blocks.{links, all_links, PairwiseApart, Chain, chain_blocks, chain_vertices, IsBlockCycle}
use Rattle.graph_theory.proofs.Shuffles.{forest_shuffle}
use Rattle.graph_theory.proofs.Blocks.{forest_of_block, block_of_forest, pairwise_apart_of, apart_of_pairwise, distinct_of_pairwise_apart, all_links-append}
use Rattle.graph_theory.proofs.Chains.{SimpleChain, simple_chain_exists, chain_connected}

-- where a member stands
module _ {I : Type 0} (block : I → List ℕ) where
  -- a cyclic list from two connected vertices of a new block
  close : (i : I) (F : List I) (x y : ℕ) → ¬ (In i F) → In x (block i) → In y (block i) → x ≢ y → (c : SimpleChain block F x y) →
      IsBlockCycle block (i ∷ F) y ((i, x) ∷ c.ks)
  close i F x y off a b n c = record {
    two = long c.ks c.chain;
    inside = λ j h. elim h [ inl e ↦ inl e | inr k ↦ inr (c.inside j k) ];
    blocks = ((λ h. off (c.inside i h)), c.blocks);
    corners = c.corners;
    chain = (b, a, c.chain);
  }
    where
      long : (ks : List (I × ℕ)) → Chain block x ks y → 2 ≤ length ((i, x) ∷ ks)
      long [] e = absurd (n e)
      long (k ∷ ks) e = omega arith

  cyclic_more : (i : I) (F : List I) (p : ℕ) (ks : List (I × ℕ)) → IsBlockCycle block F p ks → IsBlockCycle block (i ∷ F) p ks
  cyclic_more i F p ks c = record {
    two = c.two;
    inside = λ j h. inr
        (c.inside j h);
    blocks = c.blocks;
    corners = c.corners;
    chain = c.chain;
  }

  pub forest_of_no_cycle : (F : List I) → IsDistinct F → ((i : I) → In i F → IsDistinct (block i)) →
      ((p : ℕ) (ks : List (I × ℕ)) → ¬ (IsBlockCycle block F p ks)) → GrownForest (all_links block F)
  forest_of_no_cycle [] d b n = tt
  forest_of_no_cycle (i ∷ F) d b n = block_of_forest (all_links block F) (block i)
      (forest_of_no_cycle F d.1 (λ j h. b j (inr h)) (λ p ks c. n p ks (cyclic_more i F p ks c)))
      (pairwise_apart_of (all_links block F) (block i) (b i (inl refl)) (λ x y s t m c. let k = simple_chain_exists block F d.1 x y c in
      n y ((i, x) ∷ k.ks) (close i F x y d.0 s t m k)))

  front_in : {V : Type 0} (A B C : List V) (e : V) → In e (A ++ (B ++ C)) → In e (B ++ (A ++ C))
  front_in A B C e i = elim (In-append e A (B ++ C) i) [
    | inl j ↦ In-append_right e B (A ++ C) (In-append_left e A C j)
    | inr j ↦ elim (In-append e B C j) [
      | inl k ↦ In-append_left e B (A ++ C) k
      | inr k ↦ In-append_right e B (A ++ C)
          (In-append_right e A C k)
    ]
  ]

  front_size : {V : Type 0} (A B C : List V) → length (A ++ (B ++ C)) ≡ length (B ++ (A ++ C))
  front_size A B C = omega (arith, length-append A (B ++ C), length-append B C, length-append B (A ++ C), length-append A C)

  -- a block may be taken to the front
  block_to_front : (F : List I) (i : I) (G : List I) → GrownForest (all_links block (F ++ i ∷ G)) →
      GrownForest (links (block i) ++ all_links block (F ++ G))
  block_to_front F i G f = subst (λ z. GrownForest (links (block i) ++ z)) (sym (all_links-append block F G))
      (forest_shuffle (all_links block F ++ (links (block i) ++ all_links block G))
      (links (block i) ++ (all_links block F ++ all_links block G))
      (front_in (all_links block F) (links (block i)) (all_links block G))
      (front_in (links (block i)) (all_links block F) (all_links block G))
      (front_size (all_links block F) (links (block i)) (all_links block G))
      (subst GrownForest (all_links-append block F (i ∷ G)) f))

  pub apart_in_forest : (F : List I) (i : I) (G : List I) → GrownForest (all_links block (F ++ i ∷ G)) →
      PairwiseApart (all_links block (F ++ G)) (block i)
  apart_in_forest F i G f = (forest_of_block (all_links block (F ++ G)) (block i) (block_to_front F i G f)).1

  pub block_distinct_of_forest : (F : List I) → GrownForest (all_links block F) → (i : I) → In i F → IsDistinct (block i)
  block_distinct_of_forest F f i j = let r = in_split i F j in distinct_of_pairwise_apart (all_links block (r.0 ++ r.1)) (block i)
      (apart_in_forest r.0 i r.1 (subst (λ z. GrownForest (all_links block z)) r.2 f))

  -- a chain of one block or more ends at its last vertex
  pub last_in : (v : ℕ) (k : I × ℕ) (ks : List (I × ℕ)) (p : ℕ) → Chain block v (k ∷ ks) p → In p (chain_vertices (k ∷ ks))
  last_in v k [] p c = inl (sym c.2)
  last_in v k (m ∷ ks) p c = inr (last_in k.1 m ks p c.2)

  pub no_cycle_of_forest : (F : List I) → GrownForest (all_links block F) → (p : ℕ) (ks : List (I × ℕ)) → ¬ (IsBlockCycle block F p ks)
  no_cycle_of_forest F f p [] c = let t = c.two in absurd (omega arith)
  no_cycle_of_forest F f p (k ∷ []) c = let t = c.two in absurd (omega arith)
  no_cycle_of_forest F f p (k ∷ m ∷ rest) c = go (in_split k.0 F (c.inside k.0 (inl refl)))
    where
      go : (G : List I) × (H : List I) × (F ≡ G ++ k.0 ∷ H) → ⊥
      go r = apart_of_pairwise (all_links block (r.0 ++ r.1)) (block k.0) (apart_in_forest r.0 k.0 r.1
          (subst (λ z. GrownForest (all_links block z)) r.2 f)) k.1 p c.chain.1 c.chain.0
          (λ e. c.corners.0 (subst (λ z. In z (chain_vertices (m ∷ rest))) (sym e) (last_in k.1 m rest p c.chain.2)))
          (chain_connected block (r.0 ++ r.1) k.1 (m ∷ rest) p within c.chain.2)
        where
          within : (j : I) → In j (chain_blocks (m ∷ rest)) → In j (r.0 ++ r.1)
          within j h = elim (in_middle r.0 k.0 r.1 j (subst (λ z. In j z) r.2 (c.inside j (inr h)))) [
            | inl e ↦ absurd
                (c.blocks.0 (subst (λ z. In z (chain_blocks (m ∷ rest))) e h))
            | inr i ↦ i
          ]
