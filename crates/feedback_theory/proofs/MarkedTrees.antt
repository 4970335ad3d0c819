-- A spanning tree with the first edge of each mark and the edges outside the marked vertices.
use Rattle.std.proofs.Common.{◌≡◌, ◌≢◌, ℕ, ◌+◌, ◌≤◌, inl, inr, List, [], ◌∷◌, ◌++◌, length, refl, sym, ap, ◌∙◌, subst, arith}
use Rattle.std.proofs.lemmas.List.{length-append, length-map}
use Rattle.std.proofs.Math.Decide.{ℕ_discrete}
use Rattle.vector_spaces.proofs.Members.{In, In-map, In_map-from}
use Rattle.edge_lists.specs.Connections.{AreForest, IsConnected, IsGraph, Joined, one_component}
use Rattle.edge_lists.specs.Occurrences.{count, without}
use Rattle.edge_lists.proofs.Connections.{component_number_connected, forest_components, joined_edge, joined_from, joined_isolated, joined_more}
use Rattle.edge_lists.proofs.Occurrences.{count-append, count-head, count-without_in, count-without_out, count_of_in, in_of_count}
use Rattle.edge_lists.proofs.SameEdges.{same_length}
use Rattle.edge_lists.proofs.SpanningForests.{Extended, extend_forest}
use Rattle.feedback_theory.specs.FeedbackSets.{LeadsTo, outside}
use Rattle.feedback_theory.proofs.LeadingEdges.{leads_ends, leads_joined}
use Rattle.feedback_theory.proofs.Marks.{AreMarks, LeadsOut, Mark, TwoInto, apart, first_out, firsts, mark_vertices, second_out, seconds, vertex_in}
use Rattle.feedback_theory.proofs.Outside.{outside_from}

module _ (ends : ℕ → ℕ × ℕ) (V : ℕ) (H : List ℕ) (graph : IsGraph ends V H) (C : IsConnected ends V H) (D : List Mark)
    (M : AreMarks ends H D) where
  abbrev X : List ℕ
  X = mark_vertices D

  abbrev rest_out : List ℕ
  rest_out = outside ends H X

  -- the first edges of the marks hang on the forest outside X
  firsts_forest : (D' : List Mark) → ((m : Mark) → In m D' → TwoInto ends H X m) → ((m : Mark) → In m D' → 1 ≤ count m.x X)
      → ((c : ℕ) → count c (mark_vertices D') ≤ 1)
      → AreForest ends (firsts D' ++ rest_out)
  firsts_forest [] t i d = M.feedback
  firsts_forest (m ∷ D') t i d = (
    firsts_forest D' (λ k j. t k (inr j)) (λ k j. i k (inr j)) (λ c. omega (arith, d c, count-append c (m.x ∷ []) (mark_vertices D'))),
    λ j. loop (joined_isolated ends (firsts D' ++ rest_out) m.x (λ c k. far c k (ℕ_discrete (count c (firsts D')) 0)) m.w
        (leads_joined ends (firsts D' ++ rest_out) m.p m.x m.w T.p_to j)),
  )
    where
      T : TwoInto ends H X m
      T = t m (inl refl)

      x_in : 1 ≤ count m.x X
      x_in = i m (inl refl)

      loop : m.w ≡ m.x → ⊥
      loop e = omega (arith, T.w_out, x_in, ap (λ v. count v X) e)

      -- an edge that leads from another vertex of X out of X
      misses : (c x w : ℕ) → LeadsTo ends c x w → x ≢ m.x → w ≢ m.x → ((ends c).0 ≢ m.x) × ((ends c).1 ≢ m.x)
      misses c x w (inl (p, q)) n k = (λ e. n (sym p ∙ e), λ e. k (sym q ∙ e))
      misses c x w (inr (p, q)) n k = (λ e. k (sym q ∙ e), λ e. n (sym p ∙ e))

      far : (c : ℕ) → 1 ≤ count c (firsts D' ++ rest_out) → Dec (count c (firsts D') ≡ 0) → ((ends c).0 ≢ m.x) × ((ends c).1 ≢ m.x)
      far c k (yes z) =
          let r = outside_from ends H X c (omega (arith, k, z, count-append c (firsts D') rest_out)) in
          (λ e. omega (arith, r.0, x_in, ap (λ v. count v X) e), λ e. omega (arith, r.0, x_in, ap (λ v. count v X) e))
      far c k (no n) = go (In_map-from (λ (k : Mark). k.p) c D' (in_of_count c (firsts D') (omega (arith, n))))
        where
          go : (m' : Mark) × In m' D' × (c ≡ m'.p) → ((ends c).0 ≢ m.x) × ((ends c).1 ≢ m.x)
          go (m', j, e) =
              let S : TwoInto ends H X m' = t m' (inr j) in
              misses c m'.x m'.w (subst (λ v. LeadsTo ends v m'.x m'.w) (sym e) S.p_to)
              (λ q. omega (
                arith,
                d m.x,
                count-head m.x (mark_vertices D'),
                subst (λ v. 1 ≤ count v (mark_vertices D')) q (count_of_in m'.x (mark_vertices D') (In-map (λ (k : Mark). k.x) m' D' j)),
              ))
              (λ q. omega (arith, S.w_out, x_in, ap (λ v. count v X) q))

  abbrev A : List ℕ
  A = firsts D ++ rest_out

  A_forest : AreForest ends A
  A_forest = firsts_forest D M.two (vertex_in ends H graph.single D M) M.once

  -- all these edges
  abbrev used : List ℕ
  used = firsts D ++ (seconds D ++ rest_out)

  count-used : (c : ℕ) → count c used ≡ count c (firsts D) + (count c (seconds D) + count c rest_out)
  count-used c = omega (arith, count-append c (firsts D) (seconds D ++ rest_out), count-append c (seconds D) rest_out)

  used_in : (c : ℕ) → 1 ≤ count c used → 1 ≤ count c H
  used_in c i = go (ℕ_discrete (count c (firsts D)) 0) (ℕ_discrete (count c (seconds D)) 0)
    where
      go : Dec (count c (firsts D) ≡ 0) → Dec (count c (seconds D) ≡ 0) → 1 ≤ count c H
      go (yes p) (yes q) = (outside_from ends H X c (omega (arith, i, count-used c, p, q))).1
      go (no n) d = let l : LeadsOut ends H graph.single D M c = first_out ends H graph.single D M c (omega (arith, n)) in l.inside
      go (yes p) (no n) = let l : LeadsOut ends H graph.single D M c = second_out ends H graph.single D M c (omega (arith, n)) in l.inside

  abbrev rest : List ℕ
  rest = without used H

  rest_and_used : (c : ℕ) → count c (rest ++ used) ≡ count c H
  rest_and_used c = go (ℕ_discrete (count c used) 0)
    where
      go : Dec (count c used ≡ 0) → count c (rest ++ used) ≡ count c H
      go (yes z) = omega (arith, count-append c rest used, z, count-without_out c used H z)
      go (no n) = omega (
        arith,
        count-append c rest used,
        count-without_in c used H n,
        count-used c,
        apart ends H graph.single D M c,
        used_in c (omega (arith, n)),
        graph.single c,
      )

  ext : Extended ends A rest
  ext = extend_forest ends A A_forest rest

  abbrev tree : List ℕ
  tree = ext.T ++ A

  -- the forest joins the ends of every edge
  each_joined : (c : ℕ) → 1 ≤ count c H → Joined ends tree (ends c).0 (ends c).1
  each_joined c i = go (ℕ_discrete (count c (rest ++ A)) 0)
    where
      go : Dec (count c (rest ++ A) ≡ 0) → Joined ends tree (ends c).0 (ends c).1
      go (no n) = ext.joins (ends c).0 (ends c).1 (joined_edge ends c (rest ++ A) (omega (arith, n)))
      go (yes z) = by (In_map-from (λ (k : Mark). k.q) c D (in_of_count c (seconds D) (omega (
        arith,
        z,
        i,
        rest_and_used c,
        count-append c rest used,
        count-used c,
        count-append c rest A,
        count-append c (firsts D) rest_out,
      ))))
        where
          by : (m : Mark) × In m D × (c ≡ m.q) → Joined ends tree (ends c).0 (ends c).1
          by (m, j, e) =
              let T : TwoInto ends H X m = M.two m j in
              let p_in : 1 ≤ count m.p (firsts D) = count_of_in m.p (firsts D) (In-map (λ (k : Mark). k.p) m D j) in
              let A_in : 1 ≤ count m.p tree = omega (arith, p_in, count-append m.p ext.T A, count-append m.p (firsts D) rest_out) in
              let xw : Joined ends tree m.x m.w = leads_joined ends tree m.p m.x m.w T.p_to (joined_edge ends m.p tree A_in) in
              let wy : Joined ends tree m.w m.y = joined_more ends rest_out tree
              (λ d k. omega (arith, k, count-append d ext.T A, count-append d (firsts D) rest_out)) m.w m.y T.joined in
              leads_ends ends tree c m.x m.y (subst (λ v. LeadsTo ends v m.x m.y) (sym e) T.q_to) (xw ∙ wy)

  tree_connected : IsConnected ends V tree
  tree_connected u v l m = joined_from ends H tree each_joined u v (C u v l m)

  parts_inside : (c : ℕ) → count c ext.R + (count c (seconds D) + count c tree) ≤ count c H
  parts_inside c = omega (
    arith,
    count-append c ext.T A,
    count-append c (firsts D) rest_out,
    ext.all c,
    rest_and_used c,
    count-append c rest used,
    count-used c,
  )

  -- the edges that are left are as many as the cycle rank exceeds the number of marks
  left_number : length ext.R + length D + V ≡ length H + one_component V
  left_number = omega (
    arith,
    forest_components ends V tree ext.forest (λ e i. graph.below e (omega (arith, i, parts_inside e))),
    component_number_connected ends V tree tree_connected,
    length-append ext.T A,
    length-append (firsts D) rest_out,
    length-map D (λ (m : Mark). m.p),
    length-map D (λ (m : Mark). m.q),
    same_length rest (ext.R ++ ext.T) (λ c. omega (arith, ext.all c, count-append c ext.R ext.T)),
    length-append ext.R ext.T,
    same_length (rest ++ used) H rest_and_used,
    length-append rest used,
    length-append (firsts D) (seconds D ++ rest_out),
    length-append (seconds D) rest_out,
  )

  -- a tree of the graph with the first edges, that has no second edge, and what is left
  pub record MarkedTree : Type 0 where
    pub R : List ℕ
    pub tree : List ℕ
    pub outside_in : (c : ℕ) → count c (outside ends H X) ≤ count c tree
    pub firsts_in : (c : ℕ) → count c (firsts D) ≤ count c tree
    pub inside : (c : ℕ) → count c R + (count c (seconds D) + count c tree) ≤ count c H
    pub connected : IsConnected ends V tree
    pub number : length R + length D + V ≡ length H + one_component V

  pub marked_tree : MarkedTree
  marked_tree = record {
    R = ext.R;
    tree = tree;
    outside_in = λ c. omega (arith, count-append c ext.T A, count-append c (firsts D) rest_out);
    firsts_in = λ c. omega (arith, count-append c ext.T A, count-append c (firsts D) rest_out);
    inside = parts_inside;
    connected = tree_connected;
    number = left_number;
  }
