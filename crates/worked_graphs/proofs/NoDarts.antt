-- A rotation that holds no edge has no darts.
use Rattle.std.proofs.Common.{◌≡◌, ℕ, ◌<◌, ◌≤◌, List, [], ◌∷◌, ◌++◌, length, refl, sym, ap, subst, ◌∙◌, arith}
use Rattle.graph_theory.specs.Walks.{edge_at}
use Rattle.edge_lists.specs.Occurrences.{count}
use Rattle.edge_lists.proofs.Occurrences.{count-here}
use Rattle.rotation_theory.specs.Darts.{edge}
use Rattle.rotation_system.specs.RotationSystems.{IsRotationSystem, RotationSystem, darts_at, held}
use Rattle.rotation_system.proofs.DartSteps.{count_in}

-- a list in which no number stands
none_stands : (w : List ℕ) → ((d : ℕ) → count d w ≡ 0) → w ≡ []
none_stands [] h = refl
none_stands (d ∷ w) h = absurd (omega (arith, h d, count-here d w))

module _ (r : RotationSystem) (I : IsRotationSystem r) (h : (e : ℕ) → count e (held r) ≡ 0) where
  pub no_darts : (v : ℕ) → v < length r.lists → darts_at r v ≡ []
  no_darts v l = none_stands (darts_at r v) (λ d. omega (arith, count_in d v r.lists l, I.rotation.held d, h (edge d)))

  -- at either end of a loop that was put to a graph without edges
  pub no_darts_at_loop : (A E : List (ℕ × ℕ)) → A ≡ [] → E ≡ A ++ (0, 0) ∷ [] → r.ends ≡ E → 1 ≤ length r.lists
      → (darts_at r (edge_at r.ends 0).0 ≡ []) × (darts_at r (edge_at r.ends 0).1 ≡ [])
  no_darts_at_loop A E q p s l = subst (λ F. (darts_at r (edge_at F 0).0 ≡ []) × (darts_at r (edge_at F 0).1 ≡ [])) (sym only)
      (no_darts 0 l, no_darts 0 l)
    where
      only : r.ends ≡ (0, 0) ∷ []
      only = s ∙ (p ∙ ap (λ F. F ++ (0, 0) ∷ []) q)
