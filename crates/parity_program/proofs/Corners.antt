-- The corners of triangles are vertices.
use Rattle.std.proofs.Common.{ℕ, ◌<◌, inl, inr, List, All, map}
use Rattle.graph_theory.specs.Cacti.{corners, IsTriangle}
use Rattle.graph_theory.specs.Walks.{AreAdjacent}
use Rattle.vector_spaces.proofs.Members.{In, In_map-from, all-In}
use Rattle.std.proofs.Common.{subst, sym}

module _ (n : ℕ) (E : List (ℕ × ℕ)) (range : (e : ℕ × ℕ) → In e E → (e.0 < n) × (e.1 < n)) where
  -- adjacent vertices are vertices
  pub adjacent_within : (p q : ℕ) → AreAdjacent E p q → (p < n) × (q < n)
  adjacent_within p q (inl i) = range (p, q) i
  adjacent_within p q (inr i) = let r = range (q, p) i in (r.1, r.0)

  of_triangle : (t : ℕ × ℕ × ℕ) → IsTriangle E t → (v : ℕ) → In v (corners t) → v < n
  of_triangle t h v (inl e) = subst (λ w. w < n) (sym e) (adjacent_within t.0 t.1 h.sides.0).0
  of_triangle t h v (inr (inl e)) = subst (λ w. w < n) (sym e) (adjacent_within t.0 t.1 h.sides.0).1
  of_triangle t h v (inr (inr (inl e))) = subst (λ w. w < n) (sym e) (adjacent_within t.1 t.2 h.sides.1).1
  of_triangle t h v (inr (inr (inr i))) = absurd i

  pub corners_are_vertices : (Ts : List (ℕ × ℕ × ℕ)) → ((t : ℕ × ℕ × ℕ) → In t Ts → IsTriangle E t)
      → All (All (λ v. v < n)) (map corners Ts)
  corners_are_vertices Ts h =
      all-In (All (λ v. v < n)) (map corners Ts)
      (λ vs i. let r = In_map-from corners vs Ts i in
      all-In (λ v. v < n) vs (λ v j. of_triangle r.0 (h r.0 r.1) v (subst (In v) r.2 j)))
