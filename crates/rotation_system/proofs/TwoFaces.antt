-- One face made two, and two faces made one again.
use Rattle.std.proofs.Common.{◌≡◌, ℕ, ◌+◌, ◌<◌, ◌≤◌, ◌⊎◌, inl, inr, List, [], ◌∷◌, true, false, Option, length, refl, sym, subst, ◌∙◌, arith}
use Rattle.std.proofs.Math.Decide.{ℕ_discrete}
use Rattle.std.proofs.lemmas.Bool.{true≢false}
use Rattle.vector_spaces.proofs.Members.{In-all, In-get_or}
use Rattle.graph_theory.specs.Walks.{edge_at}
use Rattle.edge_lists.specs.Connections.{AreBelow}
use Rattle.edge_lists.specs.Occurrences.{count, count_all}
use Rattle.edge_lists.proofs.Occurrences.{AllDistinct, count-head, count_all-cons, count_all-nil}
use Rattle.rotation_theory.specs.CyclicLists.{arcs}
use Rattle.rotation_theory.specs.Darts.{dart, edge, rev}
use Rattle.rotation_theory.specs.Genus.{HasFaces}
use Rattle.rotation_theory.proofs.Darts.{edge_dart, edge_same, rev_rev}
use Rattle.rotation_theory.proofs.EdgeInsertion.{EdgePut}
use Rattle.rotation_theory.proofs.EdgesBetweenWalks.{before_same, insert_first}
use Rattle.rotation_theory.proofs.FaceWalks.{FaceWalks}
use Rattle.rotation_theory.proofs.Genus.{walks_of_faces}
use Rattle.rotation_theory.proofs.SameCycles.{same_front, same_refl, walks_same}
use Rattle.rotation_system.specs.PlacedDarts.{ArePut}
use Rattle.rotation_system.specs.RotationSystems.{IsRotationSystem, RotationSystem, held}
use Rattle.rotation_system.specs.Traces.{AreOnOneFace}
use Rattle.rotation_system.specs.TwoFaces.{AreApart}
use Rattle.rotation_system.proofs.PutDarts.{edge_put}
use Rattle.rotation_system.proofs.Systems.{rev_held}
use Rattle.rotation_system.proofs.WalkDarts.{answer_on}

pub apart_turned : (L : List (List ℕ)) (d c : ℕ) → AreApart L d c → AreApart L c d
apart_turned L d c A = record {
  one = A.other;
  other = A.one;
  walks = walks_same rev L L (A.one ∷ A.other ∷ []) (A.other ∷ A.one ∷ []) (same_refl L) (same_front (A.one ∷ []) A.other []) A.walks;
  first = A.second;
  second = A.first;
}

pub ends_below : (r : RotationSystem) → IsRotationSystem r → (e : ℕ) → e < length r.ends → AreBelow (length r.lists) (edge_at r.ends e)
ends_below r I e l = In-all (AreBelow (length r.lists)) r.ends I.below (edge_at r.ends e) (In-get_or r.ends e (0, 0) l)

-- an edge put into a rotation with one face: its darts are on two faces
pub split_apart : (r : RotationSystem) → IsRotationSystem r → (e : ℕ) → e < length r.ends → count e (held r) ≡ 0 → HasFaces r.lists 1
    → (p q : Option ℕ) (L' : List (List ℕ)) → ArePut r.lists (edge_at r.ends e) p q (dart e) L' → AreApart L' (dart e) (rev (dart e))
split_apart r I e l new one p q L' P = go (walks_of_faces r.lists 1 one) (edge_put (edge_at r.ends) e r.lists L' p q P)
  where
    go : (W : List (List ℕ)) × FaceWalks rev r.lists W × (length W ≡ 1) → (B : EdgePut (edge_at r.ends) e r.lists) × (B.L2 ≡ L')
        → AreApart L' (dart e) (rev (dart e))
    go ([], k, q) B = absurd (omega (arith, q))
    go (w ∷ v ∷ W, k, q) B = absurd (omega (arith, q))
    go (w ∷ [], k, q) (B, s) =
        let (A, C, f) = insert_first (edge_at r.ends) (length r.lists) (held r) e new (ends_below r I e l) r.lists I.rotation B w k in
        subst (λ X. AreApart X (dart e) (rev (dart e))) s (apart_turned B.L2 (rev (dart e)) (dart e) (record {
          one = rev (dart e) ∷ A;
          other = dart e ∷ C;
          walks = f;
          first = omega (arith, count-head (rev (dart e)) A);
          second = omega (arith, count-head (dart e) C);
        }))

-- the same for either dart of the edge
pub apart_at : (L : List (List ℕ)) (e p : ℕ) → edge p ≡ e → AreApart L (dart e) (rev (dart e)) → AreApart L p (rev p)
apart_at L e p q A = go (edge_same (dart e) p (q ∙ sym (edge_dart e)))
  where
    go : (p ≡ dart e) ⊎ (p ≡ rev (dart e)) → AreApart L p (rev p)
    go (inl s) = subst (λ x. AreApart L x (rev x)) (sym s) A
    go (inr s) = subst (λ x. AreApart L x (rev x)) (sym s) (subst (AreApart L (rev (dart e))) (sym (rev_rev (dart e)))
        (apart_turned L (dart e) (rev (dart e)) A))

module _ (L : List (List ℕ)) (D : AllDistinct L) (p : ℕ) (A : AreApart L p (rev p)) where
  total : (d : ℕ) → count d A.one + count d A.other ≡ count_all d L
  total d = omega (
    arith,
    A.walks.darts d,
    count_all-cons d A.one (A.other ∷ []),
    count_all-cons d A.other [],
    count_all-nil d,
  )

  pub apart_held : 1 ≤ count_all p L
  apart_held = omega (arith, total p, A.first)

  -- the corner after p, where the far one is on p's face
  pub corner_here : (c : ℕ) → AreOnOneFace L p c true → AreApart L (rev p) c
  corner_here c h = apart_turned L c (rev p) (record {
    one = A.one;
    other = A.other;
    walks = A.walks;
    first = (answer_on L D p c true h A.one (A.other ∷ []) A.walks A.first).0 refl;
    second = A.second;
  })

  -- the corner before p, where it is not
  pub corner_before : (c x : ℕ) → AreOnOneFace L p c false → 1 ≤ count_all c L → 1 ≤ arcs x p L → AreApart L (rev x) c
  corner_before c x h i a = record {
    one = A.one;
    other = A.other;
    walks = A.walks;
    first = before_same L A.one A.other A.walks D x p a A.first;
    second = omega (arith, total c, i, none (ℕ_discrete (count c A.one) 0));
  }
    where
      none : Dec (count c A.one ≡ 0) → count c A.one ≡ 0
      none (yes z) = z
      none (no n) = absurd (true≢false (sym ((answer_on L D p c false h A.one (A.other ∷ []) A.walks A.first).1 (omega arith))))

-- a dart whose corner is on one of two faces stands in the lists
pub corner_held : (r : RotationSystem) → IsRotationSystem r → (x c : ℕ) → AreApart r.lists (rev x) c → 1 ≤ count_all x r.lists
corner_held r I x c A = subst (λ d. 1 ≤ count_all d r.lists) (rev_rev x) (rev_held r I (rev x) (omega (
  arith,
  A.first,
  A.walks.darts (rev x),
  count_all-cons (rev x) A.one (A.other ∷ []),
)))
