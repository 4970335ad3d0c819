-- Families of paths: in graphs with more edges, with other classes, in another order, and as lists of vertices.
use Rattle.std.proofs.Common.{◌≡◌, ℕ, inl, inr, List, [], ◌∷◌, ◌++◌, map, refl, sym, ap, ap₂, ◌∙◌, subst, Bool, true}
use Rattle.std.specs.List.{flat_map}
use Rattle.vector_spaces.proofs.Members.{In, In_map-from}
use Rattle.vector_spaces.proofs.Distinct.{IsDistinct}
use Rattle.graph_theory.proofs.Pieces.{some_pieces}
use Rattle.graph_theory.specs.Paths.{IsLinked}
use Rattle.path_theory.specs.Families.{path_vertices, IsTerminalPath, IsFamily, IsPathFamily}

linked_more : (E E' : List (ℕ × ℕ)) → ((e : ℕ × ℕ) → In e E → In e E') → (x : ℕ) (vs : List ℕ) → IsLinked E x vs → IsLinked E' x vs
linked_more E E' h x [] l = tt
linked_more E E' h x (v ∷ vs) l = (elim l.0 [ inl i ↦ inl (h (x, v) i) | inr i ↦ inr (h (v, x) i) ], linked_more E E' h v vs l.1)

-- in a graph with more edges, and with classes that tell as many terminals apart
pub family_more : {C D : Type 0} (E E' : List (ℕ × ℕ)) (terminal : ℕ → Bool) (class : ℕ → C) (other : ℕ → D) (Ps : List (ℕ × List ℕ)) →
    ((e : ℕ × ℕ) → In e E → In e E') →
    ((s t : ℕ) → terminal s ≡ true → terminal t ≡ true → other s ≡ other t → class s ≡ class t) → IsFamily E terminal class Ps →
    IsFamily E' terminal other Ps
family_more E E' terminal class other Ps h k g = record { paths = λ p i. path p (g.paths p i); distinct = g.distinct }
  where
    path : (p : ℕ × List ℕ) → IsTerminalPath E terminal class p → IsTerminalPath E' terminal other p
    path p q = record {
      linked = linked_more E E' h p.0 p.1 q.linked;
      starts = q.starts;
      ends = q.ends;
      differ = λ e. q.differ
          (k _ _ q.starts q.ends e);
    }

-- different paths of a family are a family, in any order
pub family_by_members : {C : Type 0} (E : List (ℕ × ℕ)) (terminal : ℕ → Bool) (class : ℕ → C) (Ps Rs : List (ℕ × List ℕ)) →
    IsFamily E terminal class Ps → IsDistinct Rs → ((p : ℕ × List ℕ) → In p Rs → In p Ps) → IsFamily E terminal class Rs
family_by_members E terminal class Ps Rs h d k = record {
  paths = λ p i. h.paths p
      (k p i);
  distinct = some_pieces path_vertices Ps Rs h.distinct d k;
}

pub flat_vertices : (Ps : List (ℕ × List ℕ)) → flat_map (λ vs. vs) (map path_vertices Ps) ≡ flat_map path_vertices Ps
flat_vertices [] = refl
flat_vertices (p ∷ Ps) = ap (λ z. path_vertices p ++ z) (flat_vertices Ps)

-- lists that are not empty, as their first members and the others
pub pairs_of : (Q : ℕ × List ℕ → Type 0) (paths : List (List ℕ)) → ((vs : List ℕ) → In vs paths →
    (p : ℕ × List ℕ) × (vs ≡ path_vertices p) × Q p) →
    (Ps : List (ℕ × List ℕ)) × (paths ≡ map path_vertices Ps) × ((p : ℕ × List ℕ) → In p Ps → Q p)
pairs_of Q [] h = ([], refl, λ p i. absurd i)
pairs_of Q (vs ∷ paths) h = let p = h vs (inl refl) in let r = pairs_of Q paths (λ ws i. h ws (inr i)) in (
  p.0 ∷ r.0,
  ap₂ (λ y z. y ∷ z) p.1 r.1,
  λ q i. elim i [ inl e ↦ subst Q (sym e) p.2 | inr j ↦ r.2 q j ],
)

module _ {C : Type 0} (E : List (ℕ × ℕ)) (terminal : ℕ → Bool) (class : ℕ → C) where
  pub family_as_lists : (Ps : List (ℕ × List ℕ)) → IsFamily E terminal class Ps → IsPathFamily E terminal class (map path_vertices Ps)
  family_as_lists Ps h = record {
    each = λ vs i. let r = In_map-from path_vertices vs Ps i in (r.0, r.2, h.paths r.0 r.1);
    distinct = subst IsDistinct (sym (flat_vertices Ps)) h.distinct;
  }

  pub family_as_pairs : (paths : List (List ℕ)) → IsPathFamily E terminal class paths →
      (Ps : List (ℕ × List ℕ)) × (paths ≡ map path_vertices Ps) × IsFamily E terminal class Ps
  family_as_pairs paths h = let r = pairs_of (IsTerminalPath E terminal class) paths h.each in
      (r.0, r.1, record { paths = r.2; distinct = subst IsDistinct (ap (flat_map (λ vs. vs)) r.1 ∙ flat_vertices r.0) h.distinct })
