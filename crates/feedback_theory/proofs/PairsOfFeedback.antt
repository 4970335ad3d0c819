-- A feedback vertex set of a connected graph with at most three edges at each vertex gives pairs of edges without which the graph is
-- connected.
use Rattle.std.proofs.Common.{◌≡◌, ◌≢◌, ℕ, ◌+◌, ◌≤◌, inl, inr, ◌⊎◌, List, [], ◌∷◌, length, refl, ap, subst, arith}
use Rattle.std.proofs.Math.Decide.{ℕ_discrete}
use Rattle.vector_spaces.proofs.Members.{In, In-map, In_map-from}
use Rattle.edge_lists.specs.Connections.{IsConnected, IsGraph, one_component}
use Rattle.edge_lists.specs.EdgePairs.{AllHaveCommonEnd, XuongPairs, flat}
use Rattle.edge_lists.specs.Occurrences.{count, without}
use Rattle.edge_lists.proofs.Connections.{joined_more}
use Rattle.edge_lists.proofs.EdgePairs.{count-flat, count-flat_nil}
use Rattle.edge_lists.proofs.Occurrences.{count-append, count-head, count-here, count-nil, count-one, count-other, count-there, count-without_in, count-without_out, count_of_in, in_of_count}
use Rattle.feedback_theory.specs.FeedbackSets.{AtMostThree, HasEnd, LeavesForest, outside}
use Rattle.feedback_theory.proofs.FeedbackReduction.{Reduced, reduce}
use Rattle.feedback_theory.proofs.LeadingEdges.{end_total, has_end, share_at, touches}
use Rattle.feedback_theory.proofs.MarkedTrees.{MarkedTree, marked_tree}
use Rattle.feedback_theory.proofs.Marks.{AreMarks, LeadsOut, Mark, TwoInto, firsts, mark_vertices, second_out, seconds, vertex_in}
use Rattle.feedback_theory.proofs.Outside.{count-outside}

module _ (ends : ℕ → ℕ × ℕ) (V : ℕ) (H : List ℕ) (graph : IsGraph ends V H)
    (no_loop : (e : ℕ) → 1 ≤ count e H → (ends e).0 ≢ (ends e).1) (C : IsConnected ends V H) (three : AtMostThree ends H) where
  module _ (D : List Mark) (M : AreMarks ends H D) where
    K : MarkedTree ends V H graph C D M
    K = marked_tree ends V H graph C D M

    -- a mark at an end of r
    record Third (r : ℕ) : Type 0 where
      m : Mark
      m_in : In m D
      end : HasEnd ends r m.x

    in_rest : (r : ℕ) → 1 ≤ count r K.R
        → (1 ≤ count r H) × (count r (firsts D) ≡ 0) × (count r (seconds D) ≡ 0) × (count r (outside ends H (mark_vertices D)) ≡ 0)
    in_rest r i = (
      omega (arith, i, K.inside r),
      omega (arith, i, K.inside r, graph.single r, K.firsts_in r),
      omega (arith, i, K.inside r, graph.single r),
      omega (arith, i, K.inside r, graph.single r, K.outside_in r),
    )

    third : (r : ℕ) → 1 ≤ count r K.R → Third r
    third r i = go (ℕ_discrete (count (ends r).0 (mark_vertices D)) 0) (ℕ_discrete (count (ends r).1 (mark_vertices D)) 0)
      where
        at : (v : ℕ) → HasEnd ends r v → 1 ≤ count v (mark_vertices D) → Third r
        at v h k = by (In_map-from (λ (k : Mark). k.x) v D (in_of_count v (mark_vertices D) k))
          where
            by : (m : Mark) × In m D × (v ≡ m.x) → Third r
            by (m, j, e) = record { m = m; m_in = j; end = subst (HasEnd ends r) e h }

        go : Dec (count (ends r).0 (mark_vertices D) ≡ 0) → Dec (count (ends r).1 (mark_vertices D) ≡ 0) → Third r
        go (no n) d = at (ends r).0 (inl refl) (omega (arith, n))
        go (yes p) (no n) = at (ends r).1 (inr refl) (omega (arith, n))
        go (yes p) (yes q) = absurd (
            let z : count (ends r).0 (mark_vertices D) + count (ends r).1 (mark_vertices D) ≡ 0 = omega (arith, p, q) in
            let k = in_rest r i in omega (arith, k.0, k.3, count-outside ends H (mark_vertices D) r z))

    -- each edge of L with the second edge of a mark at its end
    record Built (L : List ℕ) : Type 0 where
      PP : List (ℕ × ℕ)
      qs : List ℕ
      xs : List ℕ
      share : AllHaveCommonEnd ends PP
      long : length PP ≡ length L
      flat_is : (c : ℕ) → count c (flat PP) ≡ count c qs + count c L
      q_in : (c : ℕ) → 1 ≤ count c qs → 1 ≤ count c (seconds D)
      q_bound : (c : ℕ) → count c qs ≤ count (ends c).0 xs + count (ends c).1 xs
      xs_in : (v : ℕ) → 1 ≤ count v xs → 1 ≤ count v (mark_vertices D)
      xs_from : (v : ℕ) → 1 ≤ count v xs → (r : ℕ) × (1 ≤ count r L) × HasEnd ends r v
      xs_one : (v : ℕ) → count v xs ≤ 1

    member_one : (c e : ℕ) (L : List ℕ) (P : ℕ → Type 0) → 1 ≤ count c (e ∷ L) → P e → (1 ≤ count c L → P c) → P c
    member_one c e L P i h k = go (ℕ_discrete e c)
      where
        go : Dec (e ≡ c) → P c
        go (yes q) = subst P q h
        go (no n) = k (omega (arith, i, count-other c e L n))

    build : (L : List ℕ) → ((r : ℕ) → 1 ≤ count r L → 1 ≤ count r K.R) → ((r : ℕ) → count r L ≤ 1) → Built L
    build [] h d = record {
      PP = [];
      qs = [];
      xs = [];
      share = tt;
      long = refl;
      flat_is = λ c. omega (arith, count-flat_nil c, count-nil c);
      q_in = λ c i. absurd (omega (arith, i, count-nil c));
      q_bound = λ c. omega (arith, count-nil c);
      xs_in = λ v i. absurd (omega (arith, i, count-nil v));
      xs_from = λ v i. absurd (omega (arith, i, count-nil v));
      xs_one = λ v. omega (arith, count-nil v);
    }
    build (r ∷ L) h d = go (build L (λ c i. h c (count-there c r L i)) (λ c. omega (arith, d c, count-append c (r ∷ []) L)))
        (third r (h r (count-here r L)))
      where
        go : Built L → Third r → Built (r ∷ L)
        go B t = record {
          PP = (t.m.q, r) ∷ B.PP;
          qs = t.m.q ∷ B.qs;
          xs = t.m.x ∷ B.xs;
          share = (share_at ends t.m.q r t.m.x (has_end ends t.m.q t.m.x t.m.y T.q_to) t.end, B.share);
          long = (let k = B.long in omega arith);
          flat_is = λ c. omega (
            arith,
            count-flat c (t.m.q, r) B.PP,
            B.flat_is c,
            count-append c (t.m.q ∷ []) B.qs,
            count-append c
                (r ∷ []) L,
          );
          q_in = λ c i. member_one c t.m.q B.qs (λ v. 1 ≤ count v (seconds D)) i q_second (B.q_in c);
          q_bound = λ c. omega (
            arith,
            B.q_bound c,
            count-append c (t.m.q ∷ []) B.qs,
            count-append (ends c).0 (t.m.x ∷ []) B.xs,
            count-append (ends c).1 (t.m.x ∷ []) B.xs,
            step c (ℕ_discrete t.m.q c),
          );
          xs_in = λ v i. member_one v t.m.x B.xs (λ u. 1 ≤ count u (mark_vertices D)) i (vertex_in ends H graph.single D M t.m t.m_in)
              (B.xs_in v);
          xs_from = λ v i. member_one v t.m.x B.xs (λ v. (c : ℕ) × (1 ≤ count c (r ∷ L)) × HasEnd ends c v) i (r, count-here r L, t.end)
              (λ j. let k = B.xs_from v j in (k.0, count-there k.0 r L k.1, k.2));
          xs_one = λ v. once_at v (ℕ_discrete t.m.x v);
        }
          where
            T : TwoInto ends H (mark_vertices D) t.m
            T = M.two t.m t.m_in

            q_second : 1 ≤ count t.m.q (seconds D)
            q_second = count_of_in t.m.q (seconds D) (In-map (λ (k : Mark). k.q) t.m D t.m_in)

            p_first : 1 ≤ count t.m.p (firsts D)
            p_first = count_of_in t.m.p (firsts D) (In-map (λ (k : Mark). k.p) t.m D t.m_in)

            step : (c : ℕ) → Dec (t.m.q ≡ c) → count c (t.m.q ∷ []) ≤ count (ends c).0 (t.m.x ∷ []) + count (ends c).1 (t.m.x ∷ [])
            step c (yes e) = omega (
              arith,
              ap (λ v. count c (v ∷ [])) e,
              count-one c,
              subst (λ v. 1 ≤ count (ends v).0 (t.m.x ∷ []) + count (ends v).1 (t.m.x ∷ [])) e (touches ends t.m.q t.m.x t.m.y T.q_to),
            )
            step c (no n) = omega (arith, count-other c t.m.q [] n, count-nil c)

            fresh : Dec (count t.m.x B.xs ≡ 0) → count t.m.x B.xs ≡ 0
            fresh (yes z) = z
            fresh (no n) = absurd (
                let (r', i, k) = B.xs_from t.m.x (omega (arith, n)) in
                let u = in_rest r (h r (count-here r L)) in
                let u' = in_rest r' (h r' (count-there r' r L i)) in
                let e : r' ≡ r =
                three t.m.x t.m.p t.m.q r r' T.p_in T.q_in u.0 u'.0 (has_end ends t.m.p t.m.x t.m.w T.p_to)
                (has_end ends t.m.q t.m.x t.m.y T.q_to) t.end k T.ne
                (λ s. omega (arith, p_first, u.1, ap (λ v. count v (firsts D)) s))
                (λ s. omega (arith, q_second, u.2, ap (λ v. count v (seconds D)) s))
                (λ s. omega (arith, p_first, u'.1, ap (λ v. count v (firsts D)) s))
                (λ s. omega (arith, q_second, u'.2, ap (λ v. count v (seconds D)) s)) in
                omega (arith, d r, count-head r L, i, ap (λ v. count v L) e))

            once_at : (v : ℕ) → Dec (t.m.x ≡ v) → count v (t.m.x ∷ B.xs) ≤ 1
            once_at v (yes e) = omega (
              arith,
              ap (λ u. count u (t.m.x ∷ B.xs)) e,
              count-head t.m.x B.xs,
              fresh (ℕ_discrete (count t.m.x B.xs) 0),
            )
            once_at v (no n) = omega (arith, count-other v t.m.x B.xs n, B.xs_one v)

    -- the pairs, and the edges that are none of theirs
    pairs_left : XuongPairs ends V H (length K.R)
    pairs_left = from_built (build K.R (λ r i. i) (λ r. omega (arith, K.inside r, graph.single r)))
      where
        from_built : Built K.R → XuongPairs ends V H (length K.R)
        from_built B = record {
          P = B.PP;
          K = without (flat B.PP) H;
          rest = λ c. rest_at c (ℕ_discrete (count c (flat B.PP)) 0);
          meet = B.share;
          connected = λ u v l k. joined_more ends K.tree (without (flat B.PP) H) kept u v (K.connected u v l k);
          number = B.long;
        }
          where
            left : (c : ℕ) → count c K.R + (count c (seconds D) + count c K.tree) ≤ 1
            left c = omega (arith, K.inside c, graph.single c)

            -- a second edge is chosen once
            q_single : (c : ℕ) → count c B.qs ≤ 1
            q_single c = go (ℕ_discrete (count c B.qs) 0)
              where
                go : Dec (count c B.qs ≡ 0) → count c B.qs ≤ 1
                go (yes z) = omega (arith, z)
                go (no n) =
                    let l : LeadsOut ends H graph.single D M c = second_out ends H graph.single D M c (B.q_in c (omega (arith, n))) in
                    omega (arith, B.q_bound c, end_total ends c l.x l.w l.to B.xs, B.xs_one l.x, not_in l.w l.w_out)
                  where
                    not_in : (w : ℕ) → count w (mark_vertices D) ≡ 0 → count w B.xs ≡ 0
                    not_in w z = pick (ℕ_discrete (count w B.xs) 0)
                      where
                        pick : Dec (count w B.xs ≡ 0) → count w B.xs ≡ 0
                        pick (yes y) = y
                        pick (no k) = absurd (omega (arith, z, B.xs_in w (omega (arith, k))))

            -- the chosen second edges are used ones
            q_used : (c : ℕ) → (count c B.qs ≡ 0) ⊎ (1 ≤ count c (seconds D))
            q_used c = go (ℕ_discrete (count c B.qs) 0)
              where
                go : Dec (count c B.qs ≡ 0) → (count c B.qs ≡ 0) ⊎ (1 ≤ count c (seconds D))
                go (yes z) = inl z
                go (no n) = inr (B.q_in c (omega (arith, n)))

            flat_fits : (c : ℕ) → (count c (flat B.PP) ≤ 1) × (count c (flat B.PP) ≤ count c H)
            flat_fits c = go (q_used c)
              where
                go : (count c B.qs ≡ 0) ⊎ (1 ≤ count c (seconds D)) → (count c (flat B.PP) ≤ 1) × (count c (flat B.PP) ≤ count c H)
                go (inl z) = (omega (arith, z, B.flat_is c, left c), omega (arith, z, B.flat_is c, K.inside c))
                go (inr i) = (
                  omega (arith, i, B.flat_is c, q_single c, left c),
                  omega (arith, i, B.flat_is c, q_single c, left c, K.inside c),
                )

            rest_at : (c : ℕ) → Dec (count c (flat B.PP) ≡ 0) → count c (without (flat B.PP) H) + count c (flat B.PP) ≡ count c H
            rest_at c (yes z) = omega (arith, z, count-without_out c (flat B.PP) H z)
            rest_at c (no n) = omega (arith, n, count-without_in c (flat B.PP) H n, (flat_fits c).0, (flat_fits c).1, graph.single c)

            kept : (c : ℕ) → 1 ≤ count c K.tree → 1 ≤ count c (without (flat B.PP) H)
            kept c i = go (q_used c)
              where
                go : (count c B.qs ≡ 0) ⊎ (1 ≤ count c (seconds D)) → 1 ≤ count c (without (flat B.PP) H)
                go (inl z) =
                    let y : count c (flat B.PP) ≡ 0 = omega (arith, z, B.flat_is c, i, left c) in
                    omega (arith, count-without_out c (flat B.PP) H y, i, K.inside c)
                go (inr k) = absurd (omega (arith, k, i, left c))

    pub pairs_of_marks : (g : ℕ) × XuongPairs ends V H g × (g + length D + V ≡ length H + one_component V)
    pairs_of_marks = (length K.R, pairs_left, K.number)

  -- a feedback vertex set X gives at least (edges - vertices + 1) - (its size) pairs
  pub pairs_of_feedback : (X : List ℕ) → ((c : ℕ) → count c X ≤ 1) → LeavesForest ends H X
      → (g : ℕ) × XuongPairs ends V H g × (length H + one_component V ≤ g + length X + V)
  pairs_of_feedback X d F = go (reduce ends H graph.single no_loop X d F)
    where
      go : Reduced ends H graph.single no_loop (length X)
          → (g : ℕ) × XuongPairs ends V H g × (length H + one_component V ≤ g + length X + V)
      go r = let k = pairs_of_marks r.D r.marks in (k.0, k.1, omega (arith, k.2, r.long))
