-- Which graph one line gives: that of what was said before and of its statement.
use Rattle.std.proofs.Common.{◌≡◌, ℕ, ◌↔◌, ◌+◌, ◌<◌, List, [], ◌∷◌, ◌++◌, length, Bool, true, false, cond, Ok, refl, sym, ap, ap₂, ◌∙◌, subst, arith}
use Rattle.std.specs.Prelude.{codes}
use Rattle.std.specs.Str.{bytes_eq}
use Rattle.std.proofs.lemmas.List.{length_push, append-nil}
use Rattle.graph_core.specs.NamedGraphs.{NamedGraph}
use Rattle.line_lexer.specs.declared.fault.TextFault.TheVariants.{Word}
use Rattle.text_forms.specs.Reading.{Reads, ◌>>=◌, give, fault}
use Rattle.text_forms.proofs.Taking.{bind_ok, same_given}
use Rattle.graph_text.specs.Statements.{Statement, vertices, edge, class, statement_words, names_in, edges_in, classes_in, named_graph, HasName}
use Rattle.graph_text.specs.Texts.{Begun, some, free_vertex, class_vertex, edge_within, vertex_names, edge_names, class_names, after_word, statement}
use Rattle.graph_text.proofs.EdgesMean.{edge-mean}
use Rattle.graph_text.proofs.EachMeans.{of_both}
use Rattle.graph_text.proofs.Fits.{Fits}
use Rattle.graph_text.proofs.GraphGrowth.{AreKnown, members_of}
use Rattle.graph_text.proofs.KnownNames.{Names, EdgeNames, ClassNames, same-eq}
use Rattle.graph_text.proofs.NamesMean.{vertices-mean, class-mean}

-- a value that is made of what a reader gives
pub made-ok : {T A B : Type 0} (made : A → B) (first : Reads T A) (at : ℕ) (left rest : List T) (y : B)
    → ((first >>= λ x. give (made x)) at left ≡ Ok (y, rest)) ↔ ((x : A) × (first at left ≡ Ok (x, rest)) × (y ≡ made x))
made-ok {T} {A} {B} made first at left rest y = (
  λ e.
      let parts = bind_ok (λ x. give (made x)) at (first at left) (y, rest) e in
      let same = same_given (made parts.0.0, parts.0.1) (y, rest) parts.2 in
      (parts.0.0, subst (λ (r : List T). first at left ≡ Ok (parts.0.0, r)) same.1 parts.1, sym same.0),
  λ h. let one : first at left ≡ Ok (h.0, rest) = h.1 in rw one (ap (λ (z : B). Ok (z, rest)) (sym h.2)),
)

-- what was read, of names, edges and classes
abbrev pub begun : Names → EdgeNames → ClassNames → Begun
begun names edges classes = record { graph = named_graph names edges classes; classes = length classes }

-- the words are those of a statement, which may be said too and is then read
pub record SaysOne (most : ℕ) (names : Names) (edges : EdgeNames) (classes : ClassNames) (words : Names) (s : Begun) : Type 0 where
  pub said : Statement
  pub words_are : words ≡ statement_words said
  pub some : HasName said
  pub fits : Fits most (names ++ names_in said) (edges ++ edges_in said) (members_of (classes ++ classes_in said))
  pub is : s ≡ begun (names ++ names_in said) (edges ++ edges_in said) (classes ++ classes_in said)

module _ (most : ℕ) (names : Names) (edges : EdgeNames) (classes : ClassNames)
    (known : AreKnown names edges classes) (fits : Fits most names edges (members_of classes)) where
  vertex_names-mean : (at : ℕ) (ts : Names) (s : Begun) → (vertex_names most (begun names edges classes) at ts ≡ Ok (s, []))
      ↔ ((0 < length ts) × Fits most (names ++ ts) (edges ++ []) (members_of (classes ++ [])) × (s ≡ begun (names ++ ts) (edges ++ []) (classes ++ [])))
  unfolding vertex_names
  vertex_names-mean at ts s =
      let made : NamedGraph → Begun = λ g. record { graph = g; classes = length classes } in
      let gives = made-ok made (some (free_vertex most) (named_graph names edges classes)) at ts [] s in
      let mean = vertices-mean most names edges classes known fits at ts [] in
      of_both (λ es cs. (vertex_names most (begun names edges classes) at ts ≡ Ok (s, []))
      ↔ ((0 < length ts) × Fits most (names ++ ts) es (members_of cs) × (s ≡ begun (names ++ ts) es cs)))
      edges (edges ++ []) classes (classes ++ []) (sym (append-nil edges)) (sym (append-nil classes)) (
        λ e. let h = gives.0 e in let m = (mean h.0).0 h.1 in (m.0, m.2, h.2 ∙ ap made m.3),
        λ h. gives.1 (named_graph (names ++ ts) edges classes, (mean (named_graph (names ++ ts) edges classes)).1 (h.0, refl, h.1, refl), h.2),
      )

  edge_names-mean : (at : ℕ) (ts : Names) (s : Begun) → (edge_names most (begun names edges classes) at ts ≡ Ok (s, []))
      ↔ ((a : List ℕ) × (b : List ℕ) × (ts ≡ a ∷ b ∷ []) × Fits most (names ++ a ∷ b ∷ []) (edges ++ (a, b) ∷ []) (members_of (classes ++ []))
      × (s ≡ begun (names ++ a ∷ b ∷ []) (edges ++ (a, b) ∷ []) (classes ++ [])))
  unfolding edge_names
  edge_names-mean at ts s =
      let made : NamedGraph → Begun = λ g. record { graph = g; classes = length classes } in
      let gives = made-ok made (edge_within most (named_graph names edges classes)) at ts [] s in
      let mean = edge-mean most names edges classes known fits at ts [] in
      subst (λ cs. (edge_names most (begun names edges classes) at ts ≡ Ok (s, []))
      ↔ ((a : List ℕ) × (b : List ℕ) × (ts ≡ a ∷ b ∷ []) × Fits most (names ++ a ∷ b ∷ []) (edges ++ (a, b) ∷ []) (members_of cs)
      × (s ≡ begun (names ++ a ∷ b ∷ []) (edges ++ (a, b) ∷ []) cs)))
      (sym (append-nil classes)) (
        λ e. let h = gives.0 e in let m = (mean h.0).0 h.1 in (m.0, m.1, m.2, m.3, h.2 ∙ ap made m.4),
        λ h. let g = named_graph (names ++ h.0 ∷ h.1 ∷ []) (edges ++ (h.0, h.1) ∷ []) classes in gives.1 (g, (mean g).1 (h.0, h.1, h.2, h.3, refl), h.4),
      )

  class_names-mean : (at : ℕ) (ts : Names) (s : Begun) → (class_names most (begun names edges classes) at ts ≡ Ok (s, []))
      ↔ ((0 < length ts) × Fits most (names ++ ts) (edges ++ []) (members_of (classes ++ ts ∷ [])) × (s ≡ begun (names ++ ts) (edges ++ []) (classes ++ ts ∷ [])))
  unfolding class_names
  class_names-mean at ts s =
      let made : NamedGraph → Begun = λ g. record { graph = g; classes = length classes + 1 } in
      let gives = made-ok made (some (class_vertex most (length classes)) (named_graph names edges classes)) at ts [] s in
      let mean = class-mean most names edges classes known fits at ts [] in
      let becomes : made (named_graph (names ++ ts) edges (classes ++ ts ∷ [])) ≡ begun (names ++ ts) edges (classes ++ ts ∷ []) =
      ap (λ k. record { graph = named_graph (names ++ ts) edges (classes ++ ts ∷ []); classes = k }) (sym (length_push classes ts)) in
      subst (λ es. (class_names most (begun names edges classes) at ts ≡ Ok (s, []))
      ↔ ((0 < length ts) × Fits most (names ++ ts) es (members_of (classes ++ ts ∷ [])) × (s ≡ begun (names ++ ts) es (classes ++ ts ∷ []))))
      (sym (append-nil edges)) (
        λ e. let h = gives.0 e in let m = (mean h.0).0 h.1 in (m.0, m.2, h.2 ∙ ap made m.3 ∙ becomes),
        λ h. let g = named_graph (names ++ ts) edges (classes ++ ts ∷ []) in gives.1 (g, (mean g).1 (h.0, refl, h.1, refl), h.2 ∙ sym becomes),
      )

  by_word : (at : ℕ) (w : List ℕ) (ts : Names) (s : Begun) (a b c : Bool) → bytes_eq w (codes "vertex") ≡ a → bytes_eq w (codes "edge") ≡ b
      → bytes_eq w (codes "class") ≡ c
      → cond a (vertex_names most (begun names edges classes)) (cond b (edge_names most (begun names edges classes))
      (cond c (class_names most (begun names edges classes)) (fault Word))) at ts ≡ Ok (s, [])
      → SaysOne most names edges classes (w ∷ ts) s
  by_word at w ts s true b c first _ _ e =
      let h = (vertex_names-mean at ts s).0 e in
      record { said = vertices ts; words_are = ap (λ x. x ∷ ts) (same-eq w (codes "vertex") first); some = h.0; fits = h.1; is = h.2 }
  by_word at w ts s false true c _ second _ e =
      let h = (edge_names-mean at ts s).0 e in
      record { said = edge h.0 h.1; words_are = ap₂ (λ (x : List ℕ) (xs : Names). x ∷ xs) (same-eq w (codes "edge") second) h.2; some = omega arith; fits = h.3; is = h.4 }
  by_word at w ts s false false true _ _ third e =
      let h = (class_names-mean at ts s).0 e in
      record { said = class ts; words_are = ap (λ x. x ∷ ts) (same-eq w (codes "class") third); some = h.0; fits = h.1; is = h.2 }
  by_word at w ts s false false false _ _ _ e = absurd (cc (e))

  says : (at : ℕ) (words : Names) (s : Begun) → statement most (begun names edges classes) at words ≡ Ok (s, [])
      → SaysOne most names edges classes words s
  unfolding statement after_word
  says at [] s e = absurd (cc (e))
  says at (w ∷ ts) s e = by_word at w ts s _ _ _ refl refl refl e

  is_read : (at : ℕ) (said : Statement) (s : Begun) → HasName said
      → Fits most (names ++ names_in said) (edges ++ edges_in said) (members_of (classes ++ classes_in said))
      → s ≡ begun (names ++ names_in said) (edges ++ edges_in said) (classes ++ classes_in said)
      → statement most (begun names edges classes) at (statement_words said) ≡ Ok (s, [])
  unfolding statement after_word
  is_read at (vertices ts) s some fit is = (vertex_names-mean at ts s).1 (some, fit, is)
  is_read at (edge a b) s some fit is = (edge_names-mean at (a ∷ b ∷ []) s).1 (a, b, refl, fit, is)
  is_read at (class ts) s some fit is = (class_names-mean at ts s).1 (some, fit, is)

  -- the words of one line
  pub statement-means : (at : ℕ) (words : Names) (s : Begun) → (statement most (begun names edges classes) at words ≡ Ok (s, []))
      ↔ SaysOne most names edges classes words s
  statement-means at words s = (says at words s, λ h. ap (statement most (begun names edges classes) at) h.words_are ∙ is_read at h.said s h.some h.fits h.is)
