-- A path of the second graph from its end, and families of paths that are each turned or not.
use Rattle.std.proofs.Common.{◌≡◌, ℕ, inl, inr, List, [], ◌∷◌, ◌++◌, map, refl, sym, ap, ◌∙◌, subst, Bool}
use Rattle.std.specs.List.{flat_map}
use Rattle.vector_spaces.proofs.Members.{In, In-append, In-append_left, In-append_right}
use Rattle.vector_spaces.proofs.Distinct.{IsDistinct, distinct_append, distinct_left, distinct_right, distinct_apart}
use Rattle.graph_theory.specs.Paths.{IsLinked, last_of}
use Rattle.path_theory.specs.Families.{path_vertices, IsTerminalPath, IsFamily}
use Rattle.edge_path_theory.specs.Exits.{reversed_onto}

pub reversed_first : (x : ℕ) (vs acc : List ℕ) → (reversed_onto x vs acc).0 ≡ last_of x vs
reversed_first x [] acc = refl
reversed_first x (v ∷ vs) acc = reversed_first v vs (x ∷ acc)

pub reversed_last : (x : ℕ) (vs acc : List ℕ) → last_of (reversed_onto x vs acc).0 (reversed_onto x vs acc).1 ≡ last_of x acc
reversed_last x [] acc = refl
reversed_last x (v ∷ vs) acc = reversed_last v vs (x ∷ acc)

reversed_in : (x : ℕ) (vs acc : List ℕ) (y : ℕ) → In y (path_vertices (reversed_onto x vs acc)) → In y ((x ∷ vs) ++ acc)
reversed_in x [] acc y i = i
reversed_in x (v ∷ vs) acc y i = elim (In-append y (v ∷ vs) (x ∷ acc) (reversed_in v vs (x ∷ acc) y i)) [
  | inl j ↦ inr (In-append_left y (v ∷ vs) acc j)
  | inr (inl e) ↦ inl e
  | inr (inr j) ↦ inr (In-append_right y (v ∷ vs) acc j)
]

reversed_linked : (E : List (ℕ × ℕ)) (x : ℕ) (vs acc : List ℕ) → IsLinked E x vs → IsLinked E x acc →
    IsLinked E (reversed_onto x vs acc).0 (reversed_onto x vs acc).1
reversed_linked E x [] acc l k = k
reversed_linked E x (v ∷ vs) acc l k = reversed_linked E v vs (x ∷ acc) l.1 (elim l.0 [ inl i ↦ inr i | inr i ↦ inl i ], k)

reversed_distinct : (x : ℕ) (vs acc : List ℕ) → IsDistinct ((x ∷ vs) ++ acc) → IsDistinct (path_vertices (reversed_onto x vs acc))
reversed_distinct x [] acc d = d
reversed_distinct x (v ∷ vs) acc d = reversed_distinct v vs (x ∷ acc) (distinct_append (v ∷ vs) (x ∷ acc) (distinct_left (v ∷ vs) acc d.1)
    ((λ i. d.0 (In-append_right x (v ∷ vs) acc i)), distinct_right (v ∷ vs) acc d.1) apart)
  where
    apart : (y : ℕ) → In y (v ∷ vs) → ¬ (In y (x ∷ acc))
    apart y i (inl e) = d.0 (subst (λ z. In z ((v ∷ vs) ++ acc)) e (In-append_left y (v ∷ vs) acc i))
    apart y i (inr j) = distinct_apart (v ∷ vs) acc d.1 y i j

-- paths on the vertices of the paths of a family are a family
module _ {C : Type 0} (E : List (ℕ × ℕ)) (terminal : ℕ → Bool) (class : ℕ → C) where
  -- q is a path on vertices of p
  pub record IsReplacement (p q : ℕ × List ℕ) : Type 0 where
    pub path : IsTerminalPath E terminal class q
    pub distinct : IsDistinct (path_vertices q)
    pub inside : (y : ℕ) → In y (path_vertices q) → In y (path_vertices p)

  pub reversed_is : (p : ℕ × List ℕ) → IsTerminalPath E terminal class p → IsDistinct (path_vertices p) → IsReplacement p (reversed_onto p.0 p.1 [])
  reversed_is p h d = record {
    path = record {
      linked = reversed_linked E p.0 p.1 [] h.linked tt;
      starts = ap terminal (reversed_first p.0 p.1 []) ∙ h.ends;
      ends = ap terminal (reversed_last p.0 p.1 []) ∙ h.starts;
      differ = λ e. h.differ (sym (ap class (reversed_last p.0 p.1 [])) ∙ sym e ∙ ap class (reversed_first p.0 p.1 []));
    };
    distinct = reversed_distinct p.0 p.1 [] (distinct_append (path_vertices p) [] d tt (λ y i j. j));
    inside = λ y i. elim (In-append y (path_vertices p) [] (reversed_in p.0 p.1 [] y i)) [ inl j ↦ j | inr j ↦ absurd j ];
  }

  pub same_is : (p : ℕ × List ℕ) → IsTerminalPath E terminal class p → IsDistinct (path_vertices p) → IsReplacement p p
  same_is p h d = record { path = h; distinct = d; inside = λ y i. i }

  module _ (f : ℕ × List ℕ → ℕ × List ℕ) (replace : (p : ℕ × List ℕ) → IsTerminalPath E terminal class p → IsDistinct (path_vertices p) →
      IsReplacement p (f p)) where
    replaced_in : (Ps : List (ℕ × List ℕ)) → ((p : ℕ × List ℕ) → In p Ps → IsTerminalPath E terminal class p) →
        IsDistinct (flat_map path_vertices Ps) → (y : ℕ) →
        In y (flat_map path_vertices (map f Ps)) → In y (flat_map path_vertices Ps)
    replaced_in [] h d y i = absurd i
    replaced_in (p ∷ Ps) h d y i = elim (In-append y (path_vertices (f p)) (flat_map path_vertices (map f Ps)) i) [
      | inl j ↦ In-append_left y (path_vertices p) (flat_map path_vertices Ps)
          ((replace p (h p (inl refl)) (distinct_left (path_vertices p) (flat_map path_vertices Ps) d)).inside y j)
      | inr j ↦ In-append_right y (path_vertices p) (flat_map path_vertices Ps)
          (replaced_in Ps (λ q k. h q (inr k)) (distinct_right (path_vertices p) (flat_map path_vertices Ps) d) y j)
    ]

    pub family_replaced : (Ps : List (ℕ × List ℕ)) → ((p : ℕ × List ℕ) → In p Ps → IsTerminalPath E terminal class p) →
        IsDistinct (flat_map path_vertices Ps) →
        IsFamily E terminal class (map f Ps)
    family_replaced [] h d = record { paths = λ p i. absurd i; distinct = tt }
    family_replaced (p ∷ Ps) h d = go (family_replaced Ps (λ q k. h q (inr k)) right)
        (replace p (h p (inl refl)) (distinct_left (path_vertices p) (flat_map path_vertices Ps) d))
      where
        right : IsDistinct (flat_map path_vertices Ps)
        right = distinct_right (path_vertices p) (flat_map path_vertices Ps) d

        go : IsFamily E terminal class (map f Ps) → IsReplacement p (f p) → IsFamily E terminal class (f p ∷ map f Ps)
        go r k = record {
          paths = λ q i. elim i [ inl e ↦ subst (IsTerminalPath E terminal class) (sym e) k.path | inr j ↦ r.paths q j ];
          distinct = distinct_append (path_vertices (f p)) (flat_map path_vertices (map f Ps)) k.distinct r.distinct
              (λ y i j. distinct_apart (path_vertices p) (flat_map path_vertices Ps) d y (k.inside y i)
              (replaced_in Ps (λ q m. h q (inr m)) right y j));
        }
