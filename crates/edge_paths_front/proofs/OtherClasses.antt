-- Families of paths with classes that agree on the vertices of the edges.
use Rattle.std.proofs.Common.{◌≡◌, ℕ, ◌<◌, inl, List, [], ◌∷◌, refl, sym, ◌∙◌, Bool}
use Rattle.vector_spaces.proofs.Members.{In}
use Rattle.graph_theory.specs.Paths.{last_of}
use Rattle.graph_theory.proofs.Paths.{last_in}
use Rattle.edge_path_theory.proofs.FromSecondGraph.{vertices_below}
use Rattle.path_theory.specs.Families.{path_vertices, IsTerminalPath, IsPathFamily, IsLargestPathFamily}

module _ (E : List (ℕ × ℕ)) (n : ℕ) (below : (d x : ℕ) → In (d, x) E → (d < n) × (x < n)) where
  -- a path has two vertices or more, so it is on vertices of the edges
  pub path_below : {C : Type 0} (terminal : ℕ → Bool) (class : ℕ → C) (p : ℕ × List ℕ) → IsTerminalPath E terminal class p →
      (y : ℕ) → In y (path_vertices p) → y < n
  path_below terminal class (d, []) h y i = absurd (h.differ refl)
  path_below terminal class (d, x ∷ xs) h y i = vertices_below E n below d x xs h.linked y i

  module _ {C : Type 0} (terminal other : ℕ → Bool) (class kind : ℕ → C) (same : (d : ℕ) → d < n → terminal d ≡ other d)
      (alike : (d : ℕ) → d < n → class d ≡ kind d) where
    path_over : (p : ℕ × List ℕ) → IsTerminalPath E terminal class p → IsTerminalPath E other kind p
    path_over p h = let a = path_below terminal class p h p.0 (inl refl) in
        let b = path_below terminal class p h (last_of p.0 p.1) (last_in p.0 p.1) in record {
          linked = h.linked;
          starts = sym (same p.0 a) ∙ h.starts;
          ends = sym (same (last_of p.0 p.1) b) ∙ h.ends;
          differ = λ e. h.differ (alike p.0 a ∙ e ∙ sym (alike (last_of p.0 p.1) b));
        }

    pub family_over : (paths : List (List ℕ)) → IsPathFamily E terminal class paths → IsPathFamily E other kind paths
    family_over paths h = record {
      each = λ vs i. let r = h.each vs i in (r.0, r.1, path_over r.0 r.2);
      distinct = h.distinct;
    }

  pub largest_over : {C : Type 0} (terminal other : ℕ → Bool) (class kind : ℕ → C) → ((d : ℕ) → d < n → terminal d ≡ other d) →
      ((d : ℕ) → d < n → class d ≡ kind d) → (paths : List (List ℕ)) → IsLargestPathFamily E terminal class paths →
      IsLargestPathFamily E other kind paths
  largest_over terminal other class kind same alike paths h = record {
    family = family_over terminal other class kind same alike paths h.family;
    most = λ rest k. h.most rest (family_over other terminal kind class (λ d l. sym (same d l)) (λ d l. sym (alike d l)) rest k);
  }
