-- What the edges join that are left where one is taken out of a rotation.
use Rattle.std.proofs.Common.{◌≡◌, ℕ, ◌+◌, List, [], ◌∷◌, ◌≤◌, ◌≢◌, sym, ap, arith, subst}
use Rattle.std.proofs.Math.Decide.{ℕ_discrete}
use Rattle.edge_lists.specs.Connections.{Joined}
use Rattle.edge_lists.specs.Occurrences.{count, count_all}
use Rattle.edge_lists.proofs.Connections.{joined_edge, joined_from, joined_more}
use Rattle.edge_lists.proofs.Occurrences.{count-append, count-head, count-nil, count-other}
use Rattle.rotation_theory.specs.CyclicLists.{arcs}
use Rattle.rotation_theory.specs.Darts.{edge, rev, tail}
use Rattle.rotation_theory.specs.Rotations.{IsRotation}
use Rattle.rotation_theory.proofs.EdgeRemoval.{EdgeRemoved, two_darts}
use Rattle.rotation_theory.proofs.FaceWalks.{FaceWalks}
use Rattle.rotation_theory.proofs.Vertices.{arcs_placed}

module _ (ends : ℕ → ℕ × ℕ) (V : ℕ) where
  abbrev pub Rot : List ℕ → List (List ℕ) → Type 0
  Rot = IsRotation ends V

  -- an arc of the walks leads on where its first dart arrives
  pub leads_on : (H : List ℕ) (L W : List (List ℕ)) → Rot H L → FaceWalks rev L W → (p q : ℕ) → 1 ≤ arcs p q W
      → tail ends (rev p) ≡ tail ends q
  leads_on H L W R k p q i = arcs_placed ends 0 (rev p) q L R.placed (omega (arith, i, k.next p q))

  -- a dart of the walks that is none of d's edge has its edge in what is left
  pub left_in : (H : List ℕ) (L : List (List ℕ)) → Rot H L → (d : ℕ) (X : EdgeRemoved ends V H L d) → (c : ℕ) → 1 ≤ count_all c L → c ≢ d
      → c ≢ rev d → 1 ≤ count (edge c) X.H1
  left_in H L R d X c i m n = omega (
    arith,
    i,
    R.held c,
    X.count_is (edge c),
    two_darts ends c d,
    count-other c d [] (λ e. m (sym e)),
    count-other c (rev d) [] (λ e. n (sym e)),
    count-nil c,
  )

  -- where the ends of an edge are joined without it, nothing changes
  pub same_joined : (H H1 : List ℕ) (e : ℕ) → ((c : ℕ) → count c H ≡ count c (e ∷ []) + count c H1)
      → Joined ends H1 (ends e).0 (ends e).1 → (u v : ℕ) → Joined ends H u v
      → Joined ends H1 u v
  same_joined H H1 e h j = joined_from ends H H1 each
    where
      each : (c : ℕ) → 1 ≤ count c H → Joined ends H1 (ends c).0 (ends c).1
      each c i = go (ℕ_discrete e c)
        where
          go : Dec (e ≡ c) → Joined ends H1 (ends c).0 (ends c).1
          go (yes q) = subst (λ t. Joined ends H1 (ends t).0 (ends t).1) q j
          go (no n) = joined_edge ends c H1 (omega (arith, i, h c, count-other c e [] n, count-nil c))

  pub less_joined : (H H1 : List ℕ) (e : ℕ) → ((c : ℕ) → count c H ≡ count c (e ∷ []) + count c H1) → (u v : ℕ) → Joined ends H1 u v
      → Joined ends H u v
  less_joined H H1 e h = joined_more ends H1 H (λ c i. omega (arith, i, h c))

  -- the edge e put back to what is kept
  pub back_joined : (H H1 K : List ℕ) (e : ℕ) → ((c : ℕ) → count c H ≡ count c (e ∷ []) + count c H1)
      → ((u v : ℕ) → Joined ends H1 u v → Joined ends K u v) → (u v : ℕ)
      → Joined ends H u v → Joined ends (e ∷ K) u v
  back_joined H H1 K e h j = joined_from ends H (e ∷ K) each
    where
      each : (c : ℕ) → 1 ≤ count c H → Joined ends (e ∷ K) (ends c).0 (ends c).1
      each c i = go (ℕ_discrete e c)
        where
          go : Dec (e ≡ c) → Joined ends (e ∷ K) (ends c).0 (ends c).1
          go (yes q) = joined_edge ends c (e ∷ K) (omega (arith, count-append c (e ∷ []) K, ap (λ t. count c (t ∷ [])) q, count-head c []))
          go (no n) = joined_more ends K (e ∷ K) (λ x k. omega (arith, k, count-append x (e ∷ []) K)) (ends c).0 (ends c).1
              (j (ends c).0 (ends c).1 (joined_edge ends c H1 (omega (arith, i, h c, count-other c e [] n, count-nil c))))
