-- Rotations of all edges that an independent set makes.
use Rattle.std.proofs.Common.{◌≡◌, ℕ, ◌≤◌, List, length, sym, ap, ◌∙◌, subst, arith}
use Rattle.graph_theory.specs.Walks.{edge_at}
use Rattle.edge_lists.specs.EdgeNumbers.{edge_numbers}
use Rattle.edge_lists.specs.Occurrences.{count}
use Rattle.edge_lists.proofs.EdgeNumbers.{numbers_all}
use Rattle.rotation_theory.specs.Genus.{HasGenus}
use Rattle.rotation_theory.specs.Rotations.{IsRotation}
use Rattle.rotation_system.specs.RotationSystems.{IsRotationSystem, RotationSystem, held}
use Rattle.rotation_system.proofs.Systems.{all_held}
use Rattle.genus_front.specs.EdgeParts.{AreParts}
use Rattle.genus_front.specs.GrownRotations.{GrowsBy, GrowsTo, OfGenus}
use Rattle.genus_front.proofs.EdgeParts.{together}
use Rattle.genus_front.proofs.GrownRotations.{only_genus}

-- a rotation of the tree, the pairs put in, and then the rest
module _ (E : List (ℕ × ℕ)) (n z : ℕ) (taken T rest : List ℕ) (X : AreParts E n taken T rest) (r r1 r2 : RotationSystem)
    (ends : r.ends ≡ E) (vertices : length r.lists ≡ n) (held_T : (e : ℕ) → count e (held r) ≡ count e T)
    (pairs : GrowsTo r taken z r1) (edges : GrowsBy r1 rest r2) (I : IsRotationSystem r1) (J : IsRotationSystem r2) where
  same_ends : r2.ends ≡ E
  same_ends = edges.more.ends ∙ pairs.more.ends ∙ ends

  same_vertices : length r2.lists ≡ n
  same_vertices = edges.more.vertices ∙ pairs.more.vertices ∙ vertices

  pub each_held : held r2 ≡ edge_numbers r2.ends
  each_held = all_held r2 (λ e l. omega (
    arith,
    edges.more.more e,
    pairs.more.more e,
    held_T e,
    together E n taken T rest X e,
    numbers_all E e (omega (arith, l, ap length same_ends)),
  ))

  held_all : held r2 ≡ edge_numbers E
  held_all = each_held ∙ ap edge_numbers same_ends

  pub whole_rotation : IsRotation (edge_at E) n (edge_numbers E) r2.lists
  whole_rotation = subst (λ K. IsRotation (edge_at E) n K r2.lists) held_all
      (subst (λ m. IsRotation (edge_at E) m (held r2) r2.lists) same_vertices
      (subst (λ D. IsRotation (edge_at D) (length r2.lists) (held r2) r2.lists) same_ends J.rotation))

  pub large_genus : (g : ℕ) → HasGenus n (edge_numbers E) r2.lists g → z ≤ g
  large_genus g h =
      let k : OfGenus r2 g = subst (λ m. HasGenus m (held r2) r2.lists g) (sym same_vertices)
      (subst (λ K. HasGenus n K r2.lists g) (sym held_all) h) in
      let b = edges.genus g k in
      omega (arith, b.2, only_genus r1 I z b.0 pairs.genus b.1)
