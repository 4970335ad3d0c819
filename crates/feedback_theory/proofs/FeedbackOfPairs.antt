-- Pairs of edges without which the graph is connected give a feedback vertex set.
use Rattle.std.proofs.Common.{◌≡◌, ℕ, ◌+◌, ◌<◌, ◌≤◌, inl, inr, ◌⊎◌, List, [], ◌∷◌, ◌++◌, length, refl, sym, subst, arith}
use Rattle.std.proofs.lemmas.List.{length-append, length-map}
use Rattle.std.proofs.Math.Decide.{ℕ_discrete}
use Rattle.vector_spaces.proofs.Members.{In_map-from}
use Rattle.edge_lists.specs.Connections.{IsConnected, IsGraph, first_ends, one_component}
use Rattle.edge_lists.specs.EdgePairs.{AllHaveCommonEnd, HaveCommonEnd, XuongPairs, flat}
use Rattle.edge_lists.specs.Occurrences.{count}
use Rattle.edge_lists.proofs.Connections.{component_number_connected, forest_components}
use Rattle.edge_lists.proofs.EdgePairs.{count-flat, count-flat_nil, length-flat}
use Rattle.edge_lists.proofs.Occurrences.{count-append, count-here, count-map, count-nil, count-one, count-other, count_of_in, in_of_count}
use Rattle.edge_lists.proofs.SameEdges.{forest_part, same_length}
use Rattle.edge_lists.proofs.SpanningForests.{Spanning, spanning_forest}
use Rattle.feedback_theory.specs.FeedbackSets.{LeavesForest, outside}
use Rattle.feedback_theory.proofs.Outside.{outside_from, outside_single}

module _ (ends : ℕ → ℕ × ℕ) where
  -- a common end of each pair
  pub record CommonEnds (P : List (ℕ × ℕ)) : Type 0 where
    pub X : List ℕ
    pub long : length X ≡ length P
    pub covers : (e : ℕ) → 1 ≤ count e (flat P) → 1 ≤ count (ends e).0 X + count (ends e).1 X
    pub at : (v : ℕ) → 1 ≤ count v X → (e : ℕ) × (1 ≤ count e (flat P)) × (((ends e).0 ≡ v) ⊎ ((ends e).1 ≡ v))

  common_ends : (P : List (ℕ × ℕ)) → AllHaveCommonEnd ends P → CommonEnds P
  common_ends [] s = record {
    X = [];
    long = refl;
    covers = λ e i. absurd (omega (arith, i, count-flat_nil e));
    at = λ v i. absurd (omega (arith, i, count-nil v));
  }
  common_ends (p ∷ P) s = go (common_ends P s.1) (vertex s.0)
    where
      vertex : HaveCommonEnd ends p.0 p.1 → (v : ℕ) × (((ends p.0).0 ≡ v) ⊎ ((ends p.0).1 ≡ v)) × (((ends p.1).0 ≡ v) ⊎ ((ends p.1).1 ≡ v))
      vertex (inl (inl q)) = ((ends p.1).0, inl q, inl refl)
      vertex (inl (inr q)) = ((ends p.1).1, inl q, inr refl)
      vertex (inr (inl q)) = ((ends p.1).0, inr q, inl refl)
      vertex (inr (inr q)) = ((ends p.1).1, inr q, inr refl)

      go : CommonEnds P → (v : ℕ) × (((ends p.0).0 ≡ v) ⊎ ((ends p.0).1 ≡ v)) × (((ends p.1).0 ≡ v) ⊎ ((ends p.1).1 ≡ v))
          → CommonEnds (p ∷ P)
      go r (v, h, k) = record {
        X = v ∷ r.X;
        long = (let l = r.long in omega arith);
        covers = λ e i. at e i (ℕ_discrete p.0 e) (ℕ_discrete p.1 e);
        at = λ u i. ends_at u i (ℕ_discrete v u);
      }
        where
          ends_at : (u : ℕ) → 1 ≤ count u (v ∷ r.X) → Dec (v ≡ u)
              → (e : ℕ) × (1 ≤ count e (flat (p ∷ P))) × (((ends e).0 ≡ u) ⊎ ((ends e).1 ≡ u))
          ends_at u i (yes q) = (
            p.0,
            omega (arith, count-flat p.0 p P, count-one p.0),
            subst (λ t. ((ends p.0).0 ≡ t) ⊎ ((ends p.0).1 ≡ t)) q h,
          )
          ends_at u i (no n) = let k = r.at u (omega (arith, i, count-other u v r.X n)) in
              (k.0, omega (arith, k.1, count-flat k.0 p P), k.2)

          meets : (e : ℕ) → ((ends e).0 ≡ v) ⊎ ((ends e).1 ≡ v) → 1 ≤ count (ends e).0 (v ∷ r.X) + count (ends e).1 (v ∷ r.X)
          meets e (inl q) = omega (arith, subst (λ t. 1 ≤ count (ends e).0 (t ∷ r.X)) q (count-here (ends e).0 r.X))
          meets e (inr q) = omega (arith, subst (λ t. 1 ≤ count (ends e).1 (t ∷ r.X)) q (count-here (ends e).1 r.X))

          at : (e : ℕ) → 1 ≤ count e (flat (p ∷ P)) → Dec (p.0 ≡ e) → Dec (p.1 ≡ e) → 1 ≤ count (ends e).0 (v ∷ r.X) + count (ends e).1
              (v ∷ r.X)
          at e i (yes q) d = meets e (subst (λ t. ((ends t).0 ≡ v) ⊎ ((ends t).1 ≡ v)) q h)
          at e i (no n) (yes q) = meets e (subst (λ t. ((ends t).0 ≡ v) ⊎ ((ends t).1 ≡ v)) q k)
          at e i (no n) (no m) = omega (
            arith,
            r.covers e (omega (arith, i, count-flat e p P, count-other e p.0 [] n, count-other e p.1 [] m, count-nil e)),
            count-append (ends e).0 (v ∷ []) r.X,
            count-append (ends e).1 (v ∷ []) r.X,
          )

  -- a feedback vertex set of given size
  pub record FeedbackOf (V : ℕ) (H : List ℕ) (g : ℕ) : Type 0 where
    pub X : List ℕ
    pub below : (v : ℕ) → 1 ≤ count v X → v < V
    pub feedback : LeavesForest ends H X
    pub size : length X + g + V ≡ length H + one_component V

  -- g pairs leave a feedback set with at most (edges - vertices + 1) - g vertices
  pub feedback_of_pairs : (V : ℕ) (H : List ℕ) → IsGraph ends V H
      → (g : ℕ) → XuongPairs ends V H g → FeedbackOf V H g
  feedback_of_pairs V H graph g P = record {
    X = C.X ++ first_ends ends S.R;
    below = λ v i. below_at v (omega (arith, i, count-append v C.X (first_ends ends S.R))) (ℕ_discrete (count v C.X) 0);
    feedback = forest_part ends S.T (outside ends H (C.X ++ first_ends ends S.R)) (λ c. omega (arith, parts c, graph.single c))
        (outside_single ends H (C.X ++ first_ends ends S.R) graph.single) in_tree S.forest;
    size = omega (
      arith,
      length-append C.X (first_ends ends S.R),
      C.long,
      P.number,
      length-map S.R (λ e. (ends e).0),
      same_length P.K (S.R ++ S.T) (λ c. omega (arith, S.all c, count-append c S.R S.T)),
      length-append S.R S.T,
      same_length (P.K ++ flat P.P) H (λ c. omega (arith, count-append c P.K (flat P.P), P.rest c)),
      length-append P.K (flat P.P),
      length-flat P.P,
      edges_whole,
    );
  }
    where
      C : CommonEnds P.P
      C = common_ends P.P P.meet

      S : Spanning ends P.K
      S = spanning_forest ends P.K

      parts : (c : ℕ) → count c S.R + (count c (flat P.P) + count c S.T) ≡ count c H
      parts c = omega (arith, P.rest c, S.all c)

      T_connected : IsConnected ends V S.T
      T_connected u v l m = S.joins u v (P.connected u v l m)

      edges_whole : length S.T + one_component V ≡ V
      edges_whole = omega (
        arith,
        forest_components ends V S.T S.forest (λ e i. graph.below e (omega (arith, i, parts e))),
        component_number_connected ends V S.T T_connected,
      )

      below_at : (v : ℕ) → 1 ≤ count v C.X + count v (first_ends ends S.R) → Dec (count v C.X ≡ 0) → v < V
      below_at v i (no n) = from_end (C.at v (omega (arith, n)))
        where
          from_end : (e : ℕ) × (1 ≤ count e (flat P.P)) × (((ends e).0 ≡ v) ⊎ ((ends e).1 ≡ v)) → v < V
          from_end (e, k, inl q) = subst (λ t. t < V) q ((graph.below e (omega (arith, k, parts e))).0)
          from_end (e, k, inr q) = subst (λ t. t < V) q ((graph.below e (omega (arith, k, parts e))).1)
      below_at v i (yes z) =
          let r = In_map-from (λ e. (ends e).0) v S.R (in_of_count v (first_ends ends S.R) (omega (arith, i, z))) in
          subst (λ t. t < V) (sym r.2) ((graph.below r.0 (omega (arith, count_of_in r.0 S.R r.1, parts r.0))).0)

      split : (v : ℕ) → count v (C.X ++ first_ends ends S.R) ≡ count v C.X + count v (first_ends ends S.R)
      split v = count-append v C.X (first_ends ends S.R)

      in_tree : (c : ℕ) → 1 ≤ count c (outside ends H (C.X ++ first_ends ends S.R)) → 1 ≤ count c S.T
      in_tree c i = go (outside_from ends H (C.X ++ first_ends ends S.R) c i) (ℕ_discrete (count c (flat P.P)) 0)
          (ℕ_discrete (count c S.R) 0)
        where
          go : (count (ends c).0 (C.X ++ first_ends ends S.R) + count (ends c).1 (C.X ++ first_ends ends S.R) ≡ 0) × (1 ≤ count c H)
              → Dec (count c (flat P.P) ≡ 0) → Dec (count c S.R ≡ 0)
              → 1 ≤ count c S.T
          go (z, h) (yes p) (yes r) = omega (arith, parts c, h, p, r)
          go (z, h) (no p) d = absurd (omega (arith, C.covers c (omega (arith, p)), split (ends c).0, split (ends c).1, z))
          go (z, h) (yes p) (no r) = absurd (omega (arith, count-map (λ e. (ends e).0) S.R c (omega (arith, r)), split (ends c).0, z))
