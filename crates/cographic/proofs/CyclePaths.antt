-- The paths of a spanning forest between the ends of edges, and what they have of each fundamental cycle.
use Rattle.std.proofs.Common.{◌≡◌, ℕ, ◌≤◌, inl, inr, List, [], ◌∷◌, refl, sym, ap, subst, ◌∙◌, arith}
use Rattle.std.proofs.Math.Decide.{ℕ_discrete}
use Rattle.vector_spaces.proofs.Distinct.{IsDistinct}
use Rattle.vector_spaces.proofs.Members.{In}
use Rattle.graph_theory.specs.Paths.{IsPath, LeadThrough, last_of}
use Rattle.graph_theory.proofs.Paths.{path_exists, path_is_only}
use Rattle.graph_theory.proofs.Shuffles.{forest_distinct}
use Rattle.edge_lists.specs.Connections.{AreForest, Joined}
use Rattle.edge_lists.specs.EdgeWalks.{EdgeWalk}
use Rattle.edge_lists.specs.Occurrences.{count}
use Rattle.edge_lists.proofs.Connections.{decide_joined, joined_edge}
use Rattle.edge_lists.proofs.Occurrences.{count-head, count-not_in, count-other, count_of_distinct, count_of_in, in_of_count}
use Rattle.cographic_theory.proofs.Cuts.{TreePaths}
use Rattle.cographic.specs.CographicRows.{InCycle}

module _ (ends : ℕ → ℕ × ℕ) where
  leads_ends : (x : ℕ) (es vs : List ℕ) → LeadThrough ends x es vs → (e : ℕ) → In e es → In (ends e).0 (x ∷ vs) × In (ends e).1 (x ∷ vs)
  leads_ends x [] vs h e i = absurd i
  leads_ends x (d ∷ es) [] h e i = absurd h
  leads_ends x (d ∷ es) (v ∷ vs) h e (inl q) = elim h.0 [
    | inl k ↦ (inl (ap (λ c. (ends c).0) q ∙ ap (λ p. p.0) k), inr (inl (ap (λ c. (ends c).1) q ∙ ap (λ p. p.1) k)))
    | inr k ↦ (inr (inl (ap (λ c. (ends c).0) q ∙ ap (λ p. p.0) k)), inl (ap (λ c. (ends c).1) q ∙ ap (λ p. p.1) k))
  ]
  leads_ends x (d ∷ es) (v ∷ vs) h e (inr i) = let r = leads_ends v es vs h.1 e i in (inr r.0, inr r.1)

  -- the edges of a path are different, as its vertices are
  leads_distinct : (x : ℕ) (es vs : List ℕ) → LeadThrough ends x es vs → IsDistinct (x ∷ vs) → IsDistinct es
  leads_distinct x [] vs h d = tt
  leads_distinct x (e ∷ es) [] h d = absurd h
  leads_distinct x (e ∷ es) (v ∷ vs) h d = (
    λ i. let r = leads_ends v es vs h.1 e i in elim h.0 [
      | inl k ↦ d.0 (subst (λ z. In z (v ∷ vs)) (ap (λ p. p.0) k) r.0)
      | inr k ↦ d.0 (subst (λ z. In z (v ∷ vs)) (ap (λ p. p.1) k) r.1)
    ],
    leads_distinct v es vs h.1 d.1,
  )

  pub leads_walk : (x : ℕ) (es vs : List ℕ) → LeadThrough ends x es vs → EdgeWalk ends x es (last_of x vs)
  leads_walk x [] [] h = refl
  leads_walk x [] (v ∷ vs) h = absurd h
  leads_walk x (e ∷ es) [] h = absurd h
  leads_walk x (e ∷ es) (v ∷ vs) h = elim h.0 [
    | inl k ↦ inl (ap (λ p. p.0) k, subst (λ z. EdgeWalk ends z es (last_of v vs)) (sym (ap (λ p. p.1) k)) (leads_walk v es vs h.1))
    | inr k ↦ inr (ap (λ p. p.1) k, subst (λ z. EdgeWalk ends z es (last_of v vs)) (sym (ap (λ p. p.0) k)) (leads_walk v es vs h.1))
  ]

  module _ (E T : List ℕ) (forest : AreForest ends T) (sub_T : (e : ℕ) → 1 ≤ count e T → 1 ≤ count e E)
      (spans : (u v : ℕ) → Joined ends E u v → Joined ends T u v) where
    found : (g : ℕ) → Joined ends T (ends g).0 (ends g).1 → (es : List ℕ) × IsPath ends T (ends g).0 (ends g).1 es
    found g j = path_exists ends T (forest_distinct ends T forest) (ends g).0 (ends g).1 j

    path_by : (g : ℕ) → Dec (Joined ends T (ends g).0 (ends g).1) → List ℕ
    path_by g (yes j) = (found g j).0
    path_by g (no n) = []

    -- the path between the ends of g
    pub path_of : ℕ → List ℕ
    path_of g = path_by g (decide_joined ends T (ends g).0 (ends g).1)

    pub path_is : (g : ℕ) → 1 ≤ count g E → IsPath ends T (ends g).0 (ends g).1 (path_of g)
    unfolding path_of path_by
    path_is g i = go (decide_joined ends T (ends g).0 (ends g).1)
      where
        go : (d : Dec (Joined ends T (ends g).0 (ends g).1)) → IsPath ends T (ends g).0 (ends g).1 (path_by g d)
        go (yes j) = (found g j).1
        go (no n) = absurd (n (spans (ends g).0 (ends g).1 (joined_edge ends g E i)))

    unfoldable pub tree_paths : TreePaths ends E T
    tree_paths = record {
      forest = forest;
      sub_T = sub_T;
      path = path_of;
      within = λ g c i n j. count_of_in c T ((path_is g i).inside c (in_of_count c (path_of g) j));
      leads = λ g i n. let p = path_is g i in subst (EdgeWalk ends (ends g).0 (path_of g)) p.last
          (leads_walk (ends g).0 (path_of g) p.others p.leads);
    }

    module _ (g x : ℕ) (i : 1 ≤ count g E) (out : count g T ≡ 0) where
      -- once, where x is in the cycle of g
      pub once_in_cycle : InCycle ends T g x → count x (g ∷ path_of g) ≡ 1
      once_in_cycle (inl q) = subst (λ z. count z (g ∷ path_of g) ≡ 1) (sym q)
          (let none = count-not_in g (path_of g) (λ j. let k = count_of_in g T ((path_is g i).inside g j) in omega (arith, k, out)) in
          omega (arith, none, count-head g (path_of g)))
      once_in_cycle (inr (es, p, j)) =
          let r = path_is g i in
          let k : In x (path_of g) = subst (In x) (path_is_only ends T forest (ends g).0 (ends g).1 es (path_of g) p r) j in
          let l = count_of_in x (path_of g) k in
          let m = count_of_distinct (path_of g) (leads_distinct (ends g).0 (path_of g) r.others r.leads r.distinct) x in
          let o = count-other x g (path_of g) (λ q. let t = count_of_in x T (r.inside x k) in omega (arith, t, out, ap (λ z. count z T) q)) in
          omega (arith, l, m, o)

      pub none_off_cycle : ¬ (InCycle ends T g x) → count x (g ∷ path_of g) ≡ 0
      none_off_cycle n = count-other x g (path_of g) (λ q. n (inl (sym q))) ∙ count-not_in x (path_of g) (λ j. n (inr (path_of g, path_is g i, j)))

      pub decide_cycle : Dec (InCycle ends T g x)
      decide_cycle = go (ℕ_discrete x g) (ℕ_discrete (count x (path_of g)) 0)
        where
          go : Dec (x ≡ g) → Dec (count x (path_of g) ≡ 0) → Dec (InCycle ends T g x)
          go (yes q) d = yes (inl q)
          go (no n) (yes z) = no (λ c. let o = once_in_cycle c in let k = count-other x g (path_of g) (λ q. n (sym q)) in omega (arith, o, k, z))
          go (no n) (no m) = yes (inr (path_of g, path_is g i, in_of_count x (path_of g) (omega arith)))
