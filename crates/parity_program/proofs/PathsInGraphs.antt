-- Path families of graphs: their vertices are the graph's, and in their order they can be written.
use Rattle.std.proofs.Common.{◌≡◌, ℕ, ◌<◌, inl, inr, List, [], ◌∷◌, length, All, refl, sym, subst}
use Rattle.graph_core.specs.NamedGraphs.{NamedGraph, IsNamedGraph}
use Rattle.graph_text.specs.Spelled.{AreVertices, AreInOrder, first_of, last_of_all}
use Rattle.graph_theory.specs.Paths.{IsLinked, last_of}
use Rattle.parity_program.proofs.Corners.{adjacent_within}
use Rattle.parity_program.specs.Shown.{HasFewClasses}
use Rattle.path_theory.specs.Classes.{class_of, is_terminal}
use Rattle.path_theory.specs.Families.{AreOrdered, IsPathFamily}
use Rattle.s_paths_front.proofs.Setting.{paths_setting}
use Rattle.vector_spaces.proofs.Members.{In, In-all, all-In}

linked_within : (n : ℕ) (E : List (ℕ × ℕ)) → ((e : ℕ × ℕ) → In e E → (e.0 < n) × (e.1 < n)) → (x : ℕ) (vs : List ℕ) → x < n
    → IsLinked E x vs → (v : ℕ) → In v (x ∷ vs) → v < n
linked_within n E range x vs small linked v (inl e) = subst (λ w. w < n) (sym e) small
linked_within n E range x [] small linked v (inr i) = absurd i
linked_within n E range x (w ∷ vs) small linked v (inr i) =
    linked_within n E range w vs (adjacent_within n E range x w linked.0).1 linked.1 v i

pub family_within : (g : NamedGraph) → IsNamedGraph g → HasFewClasses g → (paths : List (List ℕ))
    → IsPathFamily g.ends (is_terminal g.classes) (class_of g.classes) paths → All (AreVertices g) paths
family_within g named slopes paths family =
    let n : ℕ = length g.names in
    let below = (paths_setting g named slopes).below in
    all-In (AreVertices g) paths
    (λ vs i. let path = family.each vs i in
    all-In (λ v. v < n) vs
    (λ v j. linked_within n g.ends (In-all _ g.ends named.within) path.0.0 path.0.1 (below path.0.0 path.2.starts) path.2.linked v
    (subst (In v) path.1 j)))

last_same : (x : ℕ) (vs : List ℕ) → last_of_all (x ∷ vs) ≡ last_of x vs
last_same x [] = refl
last_same x (v ∷ vs) = last_same v vs

pub in_order : (paths : List (List ℕ)) → AreOrdered paths → AreInOrder paths
in_order paths h = record {
  each = all-In (λ path. first_of path < last_of_all path) paths (λ vs i.
      let up = h.upward vs i in
      subst (λ path. first_of path < last_of_all path) (sym up.1)
      (subst (λ last. up.0.0 < last) (sym (last_same up.0.0 up.0.1)) up.2));
  ordered = h.ordered;
}
