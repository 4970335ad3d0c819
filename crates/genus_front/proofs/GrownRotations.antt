-- Rotations that grow, step by step.
use Rattle.std.proofs.Common.{◌≡◌, ℕ, zero, suc, ◌+◌, ◌<◌, ◌≤◌, List, [], ◌∷◌, length, refl, sym, ◌∙◌, subst, arith}
use Rattle.vector_spaces.proofs.Members.{In-all, In-get_or}
use Rattle.graph_theory.specs.Walks.{edge_at}
use Rattle.edge_lists.specs.Connections.{AreBelow, one_component}
use Rattle.edge_lists.specs.EdgePairs.{flat}
use Rattle.edge_lists.specs.Occurrences.{count}
use Rattle.edge_lists.proofs.EdgePairs.{count-flat_nil}
use Rattle.edge_lists.proofs.Occurrences.{count-nil}
use Rattle.rotation_theory.specs.Genus.{HasFaces}
use Rattle.rotation_theory.proofs.Genus.{genus_total, genus_unique}
use Rattle.rotation_theory.proofs.Vertices.{rotation_distinct}
use Rattle.rotation_system.specs.InsertedEdges.{HoldsMore}
use Rattle.rotation_system.specs.RotationSystems.{IsRotationSystem, RotationSystem, held}
use Rattle.genus_front.specs.GrownRotations.{GrowsBy, GrowsTo, HasOneFace, OfGenus}

one_of_some : (n : ℕ) → 1 ≤ n → one_component n ≡ 1
one_of_some zero l = absurd (omega arith)
one_of_some (suc n) l = refl

-- where an edge has an end there is a vertex
pub one_component_of : (r : RotationSystem) → IsRotationSystem r → (e : ℕ) → e < length r.ends → one_component (length r.lists) ≡ 1
one_component_of r I e l = one_of_some (length r.lists)
    (let b = (In-all (AreBelow (length r.lists)) r.ends I.below (edge_at r.ends e) (In-get_or r.ends e (0, 0) l)).0 in omega arith)

pub only_genus : (r : RotationSystem) → IsRotationSystem r → (g g' : ℕ) → OfGenus r g → OfGenus r g' → g ≡ g'
only_genus r I g g' h k = genus_unique (edge_at r.ends) (length r.lists) (held r) r.lists g g'
    (rotation_distinct (edge_at r.ends) (length r.lists) (held r) r.lists I.rotation) h k

-- no edges more, and edges more in two steps
none_more : (r : RotationSystem) (K : List ℕ) → ((e : ℕ) → count e K ≡ 0) → HoldsMore r K r
none_more r K z = record { ends = refl; vertices = refl; more = λ e. omega (arith, z e) }

twice_more : (r r1 r2 : RotationSystem) (K L M : List ℕ) → HoldsMore r K r1 → HoldsMore r1 L r2
    → ((e : ℕ) → count e M ≡ count e K + count e L) → HoldsMore r M r2
twice_more r r1 r2 K L M h k q = record {
  ends = k.ends ∙ h.ends;
  vertices = k.vertices ∙ h.vertices;
  more = λ e. omega (arith, k.more e, h.more e, q e);
}

-- ---- pairs

pub no_pairs : (r : RotationSystem) → HasOneFace r → OfGenus r 0 → GrowsTo r (flat []) 0 r
no_pairs r f g = record { more = none_more r (flat []) count-flat_nil; faces = f; genus = g }

pub more_pairs : (r r1 r2 : RotationSystem) (K L M : List ℕ) (g g' : ℕ) → GrowsTo r K g r1 → GrowsTo r1 L g' r2
    → ((e : ℕ) → count e M ≡ count e K + count e L) → GrowsTo r M g' r2
more_pairs r r1 r2 K L M g g' h k q = record { more = twice_more r r1 r2 K L M h.more k.more q; faces = k.faces; genus = k.genus }

pub a_pair : (r r' : RotationSystem) → IsRotationSystem r → (e f : ℕ) → e < length r.ends → HoldsMore r (e ∷ f ∷ []) r'
    → HasFaces r'.lists 1 → (g : ℕ) → OfGenus r' g → GrowsTo r (e ∷ f ∷ []) g r'
a_pair r r' I e f l H F g k = record {
  more = H;
  faces = subst (λ n. HasFaces r'.lists (one_component n)) (sym H.vertices) (subst (HasFaces r'.lists) (sym (one_component_of r I e l)) F);
  genus = k;
}

-- ---- single edges

pub no_edges : (r : RotationSystem) → GrowsBy r [] r
no_edges r = record { more = none_more r [] count-nil; genus = λ g h. (g, h, omega arith) }

pub more_edges : (r r1 r2 : RotationSystem) (K L M : List ℕ) → GrowsBy r K r1 → GrowsBy r1 L r2
    → ((e : ℕ) → count e M ≡ count e K + count e L) → GrowsBy r M r2
more_edges r r1 r2 K L M h k q = record {
  more = twice_more r r1 r2 K L M h.more k.more q;
  genus = λ g' x. let a = k.genus g' x in let b = h.genus a.0 a.1 in (b.0, b.1, let i = a.2 in let j = b.2 in omega arith);
}

pub an_edge : (r r' : RotationSystem) → IsRotationSystem r → (e : ℕ) → HoldsMore r (e ∷ []) r'
    → ((g g' : ℕ) → OfGenus r g → OfGenus r' g' → g ≤ g') → GrowsBy r (e ∷ []) r'
an_edge r r' I e H G = record {
  more = H;
  genus = λ g' h.
      let t = genus_total (edge_at r.ends) (length r.lists) (held r) r.lists I.rotation I.connected in
      (t.0, t.1, G t.0 g' t.1 h);
}
