-- The refusal of a graph text depends on the lines up to the refused one alone.
use Rattle.std.proofs.Common.{◌≡◌, ℕ, ◌+◌, List, [], ◌∷◌, ◌++◌, length, None, Some, Option, Result, Ok, Err, refl, ap, subst, inl, inr, ltb, leb}
use Rattle.std.specs.Prelude.{◌||◌, ◌⊎◌, codes, slice_index_or}
use Rattle.std.specs.Str.{bytes_eq}
use Rattle.graph_core.specs.NamedGraphs.{NamedGraph}
use Rattle.graph_text.specs.Statements.{is_among, number_in}
use Rattle.graph_text.specs.Texts.{Begun, value_then, each, some, with_name, named, spelled_vertex, vertex, free_vertex, put_in, class_vertex, two_ends, edge_within, vertex_names, edge_names, class_names, after_word, statement, statements, nothing, graph}
use Rattle.line_lexer.specs.Lines.{Line}
use Rattle.line_lexer.specs.declared.fault.TextFault.TheVariants.{Word, Classed, Missing}
use Rattle.line_lexer.specs.declared.refusal.Counted.TheVariants.{Vertices, Edges, NameBytes}
use Rattle.line_lexer.specs.declared.refusal.TextRefusal.{TextRefusal}
use Rattle.line_lexer.specs.declared.refusal.TextRefusal.TheVariants.{Bad}
use Rattle.text_forms.specs.Causality.{IsOnLine, FaultsOnLine, IsRefusedAtLine, RefusesCausally}
use Rattle.text_forms.specs.Forms.{Form, line, version}
use Rattle.text_forms.specs.Places.{Place, word}
use Rattle.text_forms.specs.Reading.{◌>>=◌, give, fault, above}
use Rattle.text_forms.proofs.Causal.{GivesCausally-line, RefusesCausally-line, RefusesCausally-bind}
use Rattle.text_forms.proofs.Faults.{FaultsOnLine-give, FaultsOnLine-fault, FaultsOnLine-above, FaultsOnLine-bind, FaultsOnLine-if, FaultsOnLine-word, FaultsOnLine-version}
use Rattle.text_forms.proofs.LinesTake.{line-ok}
use Rattle.text_forms.proofs.Taking.{bind_err}

value_refused : {T A B : Type 0} (next : A → Result B TextRefusal) (read : Result (A × List T) TextRefusal) (e : TextRefusal) → value_then next read ≡ Err e
    → (read ≡ Err e) ⊎ ((x : A × List T) × (read ≡ Ok x) × (next x.0 ≡ Err e))
value_refused next (Ok x) e h = inr (x, refl, h)
value_refused next (Err d) e h = inl (cc (h))

FaultsOnLine-each : {A : Type 0} (next : A → Place A) → ((x : A) → FaultsOnLine (next x)) → (x : A) (at : ℕ) (words : List (List ℕ)) (e : TextRefusal) → each next x at words ≡ Err e → IsOnLine e at
unfolding each
FaultsOnLine-each next faults x at [] e h = absurd (cc (h))
FaultsOnLine-each next faults x at (w ∷ words) e h =
    elim (value_refused (λ y. each next y at words) (next x at (w ∷ [])) e h) [
      | inl first ↦ faults x at (w ∷ []) e first
      | inr others ↦ FaultsOnLine-each next faults others.0.0 at words e others.2
    ]

FaultsOnLine-some : {A : Type 0} (next : A → Place A) → ((x : A) → FaultsOnLine (next x)) → (x : A) → FaultsOnLine (some next x)
FaultsOnLine-some next faults x = FaultsOnLine-bind (next x) (each next) (faults x) (FaultsOnLine-each next faults)

FaultsOnLine-vertex : (most : ℕ) (g : NamedGraph) → FaultsOnLine (vertex most g)
unfolding vertex spelled_vertex named
FaultsOnLine-vertex most g = FaultsOnLine-bind word _ FaultsOnLine-word (λ name.
    FaultsOnLine-if (leb (length name) 32) _ (above NameBytes (length name))
    (FaultsOnLine-if (is_among g.names name || ltb (length g.names) most) (give (with_name g name, number_in (with_name g name).names name)) (above Vertices (most + 1)) (FaultsOnLine-give _) (FaultsOnLine-above Vertices (most + 1)))
    (FaultsOnLine-above NameBytes (length name)))

FaultsOnLine-free_vertex : (most : ℕ) (g : NamedGraph) → FaultsOnLine (free_vertex most g)
unfolding free_vertex
FaultsOnLine-free_vertex most g = FaultsOnLine-bind (vertex most g) _ (FaultsOnLine-vertex most g) (λ x. FaultsOnLine-give x.0)

FaultsOnLine-put_in : (class : ℕ) (g : NamedGraph) (v : ℕ) (o : Option ℕ) → FaultsOnLine (put_in class g v o)
FaultsOnLine-put_in class g v None = FaultsOnLine-give _
FaultsOnLine-put_in class g v (Some k) = FaultsOnLine-fault Classed

FaultsOnLine-class_vertex : (most class : ℕ) (g : NamedGraph) → FaultsOnLine (class_vertex most class g)
unfolding class_vertex
FaultsOnLine-class_vertex most class g = FaultsOnLine-bind (vertex most g) _ (FaultsOnLine-vertex most g) (λ x. FaultsOnLine-put_in class x.0 x.1 (slice_index_or x.0.classes x.1 None))

FaultsOnLine-edge_within : (most : ℕ) (g : NamedGraph) → FaultsOnLine (edge_within most g)
unfolding edge_within two_ends
FaultsOnLine-edge_within most g = FaultsOnLine-if (ltb (length g.ends) 512) _ (above Edges 513)
    (FaultsOnLine-bind (vertex most g) _ (FaultsOnLine-vertex most g)
    (λ first. FaultsOnLine-bind (vertex most first.0) _ (FaultsOnLine-vertex most first.0) (λ second. FaultsOnLine-give _)))
    (FaultsOnLine-above Edges 513)

FaultsOnLine-vertex_names : (most : ℕ) (s : Begun) → FaultsOnLine (vertex_names most s)
unfolding vertex_names
FaultsOnLine-vertex_names most s = FaultsOnLine-bind (some (free_vertex most) s.graph) _ (FaultsOnLine-some (free_vertex most) (FaultsOnLine-free_vertex most) s.graph) (λ g. FaultsOnLine-give _)

FaultsOnLine-edge_names : (most : ℕ) (s : Begun) → FaultsOnLine (edge_names most s)
unfolding edge_names
FaultsOnLine-edge_names most s = FaultsOnLine-bind (edge_within most s.graph) _ (FaultsOnLine-edge_within most s.graph) (λ g. FaultsOnLine-give _)

FaultsOnLine-class_names : (most : ℕ) (s : Begun) → FaultsOnLine (class_names most s)
unfolding class_names
FaultsOnLine-class_names most s = FaultsOnLine-bind (some (class_vertex most s.classes) s.graph) _
    (FaultsOnLine-some (class_vertex most s.classes) (FaultsOnLine-class_vertex most s.classes) s.graph) (λ g. FaultsOnLine-give _)

FaultsOnLine-statement : (most : ℕ) (s : Begun) → FaultsOnLine (statement most s)
unfolding statement after_word
FaultsOnLine-statement most s = FaultsOnLine-bind word _ FaultsOnLine-word (λ first.
    FaultsOnLine-if (bytes_eq first (codes "vertex")) (vertex_names most s) _ (FaultsOnLine-vertex_names most s)
    (FaultsOnLine-if (bytes_eq first (codes "edge")) (edge_names most s) _ (FaultsOnLine-edge_names most s)
    (FaultsOnLine-if (bytes_eq first (codes "class")) (class_names most s) (fault Word) (FaultsOnLine-class_names most s) (FaultsOnLine-fault Word))))

-- a line alone is refused whatever follows
alone_refused : {A : Type 0} (place : Place A) (l : Line) (e : TextRefusal) (r : IsRefusedAtLine (line place) (l ∷ []) e)
    → IsOnLine e l.number × ((last : ℕ) → line place last (l ∷ []) ≡ Err e)
alone_refused place l e r = go r.before r.text_is (λ last. r.refuses last [])
  where
    go : (before : List Line) → l ∷ [] ≡ before ++ r.at ∷ r.rest → ((last : ℕ) → line place last ((before ++ r.at ∷ []) ++ []) ≡ Err e)
        → IsOnLine e l.number × ((last : ℕ) → line place last (l ∷ []) ≡ Err e)
    go [] h refuses = let same : r.at ≡ l = cc (h) in
        (subst (λ (m : Line). IsOnLine e m.number) same r.on_line, λ last. subst (λ (m : Line). line place last (m ∷ []) ≡ Err e) same (refuses last))
    go (b ∷ []) h refuses = absurd (cc (h))
    go (b ∷ c ∷ before) h refuses = absurd (cc (h))

RefusesCausally-lines : {A : Type 0} (place : A → Place A) → ((x : A) → FaultsOnLine (place x)) → (x : A) (last : ℕ) (text : List Line) (e : TextRefusal)
    → each (λ x. line (place x)) x last text ≡ Err e → (e ≡ Bad (last + 1) Missing) ⊎ IsRefusedAtLine (each (λ x. line (place x)) x) text e
unfolding each
RefusesCausally-lines place faults x last [] e h = absurd (cc (h))
RefusesCausally-lines place faults x last (l ∷ more) e h =
    elim (value_refused (λ y. each (λ x. line (place x)) y last more) (line (place x) last (l ∷ [])) e h) [
      | inl first ↦ elim (RefusesCausally-line (place x) (faults x) last (l ∷ []) e first) [
        | inl missing ↦ inl missing
        | inr r ↦
            let alone = alone_refused (place x) l e r in
            inr (record {
              before = [];
              at = l;
              rest = more;
              text_is = refl;
              on_line = alone.0;
              refuses = λ last' rest'. let refused : line (place x) last' (l ∷ []) ≡ Err e = alone.1 last' in rw refused refl;
            })
      ]
      | inr others ↦
          let gave = (line-ok (place x) last (l ∷ []) others.0.1 others.0.0).0 others.1 in
          elim (RefusesCausally-lines place faults others.0.0 last more e others.2) [
            | inl missing ↦ inl missing
            | inr r ↦ inr (record {
              before = l ∷ r.before;
              at = r.at;
              rest = r.rest;
              text_is = ap (λ (t : List Line). l ∷ t) r.text_is;
              on_line = r.on_line;
              refuses = λ last' rest'.
                  let gives : line (place x) last' (l ∷ []) ≡ Ok (others.0.0, others.0.1) = (line-ok (place x) last' (l ∷ []) others.0.1 others.0.0).1 gave in
                  rw gives (r.refuses last' rest');
            })
          ]
    ]

-- what is made of a value changes no refusal
RefusesCausally-made : {A B : Type 0} (form : Form A) (made : A → B) → RefusesCausally form → RefusesCausally (form >>= λ x. give (made x))
RefusesCausally-made form made refuses last text e h =
    elim (bind_err (λ x. give (made x)) last (form last text) e h) [
      | inl first ↦ elim (refuses last text e first) [
        | inl missing ↦ inl missing
        | inr r ↦ inr (record {
          before = r.before;
          at = r.at;
          rest = r.rest;
          text_is = r.text_is;
          on_line = r.on_line;
          refuses = λ last' rest'. let one : form last' ((r.before ++ r.at ∷ []) ++ rest') ≡ Err e = r.refuses last' rest' in rw one refl;
        })
      ]
      | inr made_of ↦ absurd (cc (made_of.2))
    ]

pub RefusesCausally-graph : (most : ℕ) → RefusesCausally (graph most)
unfolding graph
RefusesCausally-graph most =
    RefusesCausally-bind (line (version (codes "graph"))) _ (GivesCausally-line (version (codes "graph"))) (RefusesCausally-line (version (codes "graph")) (FaultsOnLine-version (codes "graph")))
    (λ _. RefusesCausally-made (statements most nothing) (λ s. s.graph) (RefusesCausally-lines (statement most) (FaultsOnLine-statement most) nothing))
