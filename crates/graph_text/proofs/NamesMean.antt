-- Which graph the names on one line give.
use Rattle.std.proofs.Common.{◌≡◌, ℕ, ◌↔◌, ◌+◌, ◌<◌, ◌≤◌, List, [], ◌∷◌, ◌++◌, length, Bool, true, false, cond, None, Some, Option, Ok, refl, sym, ap, ap₂, ◌∙◌, subst, inl, inr, append_assoc, arith, ltb, leb, map}
use Rattle.std.specs.Prelude.{◌≢◌, ◌||◌, slice_index_or, slice_set}
use Rattle.std.specs.List.{AllByRecursion}
use Rattle.std.proofs.lemmas.Bool.{lt-ltb, ltb-true, leb-true, le-leb}
use Rattle.std.proofs.lemmas.Grind.{flat_map-append}
use Rattle.std.proofs.lemmas.List.{length_push, get_or-map, append-nil}
use Rattle.vector_spaces.proofs.Distinct.{IsDistinct, distinct_append, distinct_left, distinct_apart}
use Rattle.vector_spaces.proofs.Members.{In, In-append_left, In-append_right}
use Rattle.graph_core.specs.NamedGraphs.{NamedGraph}
use Rattle.line_lexer.specs.declared.refusal.Counted.{Counted}
use Rattle.line_lexer.specs.declared.refusal.Counted.TheVariants.{Vertices, NameBytes}
use Rattle.text_forms.specs.Places.{Place}
use Rattle.text_forms.specs.Reading.{give, above}
use Rattle.text_forms.proofs.Taking.{bind_ok, same_given}
use Rattle.graph_text.specs.Statements.{first_appearances, is_among, number_in, named_graph}
use Rattle.graph_text.specs.Texts.{some, with_name, named, spelled_vertex, vertex, free_vertex, put_in, class_vertex}
use Rattle.graph_text.proofs.Appearances.{appearing-In, In-appearing, appears_first, appears_again, number_stands}
use Rattle.graph_text.proofs.Fits.{Fits, fits-front, fits-name, fits-short}
use Rattle.graph_text.proofs.GraphGrowth.{AreKnown, members_of, place, class_of, in_no_class, in_a_class, known-more, known-class, one_more_name, one_more_member, class_begins}
use Rattle.graph_text.proofs.EachMeans.{of_both, TakesOne, some-items}
use Rattle.graph_text.proofs.KnownNames.{Names, EdgeNames, ClassNames, among-In, among-not}

-- both tests hold
tested : {T A : Type 0} (a b : Bool) (x y : A) (what what' : Counted) (found found' at : ℕ) (left rest : List T)
    → (cond a (cond b (give x) (above what found)) (above what' found') at left ≡ Ok (y, rest))
    ↔ ((a ≡ true) × (b ≡ true) × (rest ≡ left) × (y ≡ x))
tested {T} {A} true true x y what what' found found' at left rest = (
  λ h. let same = same_given (x, left) (y, rest) h in (refl, refl, sym same.1, sym same.0),
  λ h. ap₂ (λ (z : A) (r : List T). Ok (z, r)) (sym h.3) (sym h.2),
)
tested true false x y what what' found found' at left rest = (λ h. absurd (cc (h)), λ h. absurd (cc (h.1)))
tested false b x y what what' found found' at left rest = (λ h. absurd (cc (h)), λ h. absurd (cc (h.0)))

-- one more name is within the limit
room : (most : ℕ) (names : Names) (name : List ℕ) → length (first_appearances names) ≤ most
    → ((is_among (first_appearances names) name || ltb (length (first_appearances names)) most) ≡ true)
    ↔ (length (first_appearances (names ++ name ∷ [])) ≤ most)
room most names name fits = go (is_among (first_appearances names) name) refl
  where
    go : (b : Bool) → is_among (first_appearances names) name ≡ b → ((b || ltb (length (first_appearances names)) most) ≡ true)
        ↔ (length (first_appearances (names ++ name ∷ [])) ≤ most)
    go true e =
        let again = ap length (appears_again name names (appearing-In name names (among-In (first_appearances names) name e))) in
        ((λ t. omega (arith, again, fits)), λ l. refl)
    go false e =
        let new : ¬ (In name names) = λ i. among-not (first_appearances names) name e (In-appearing name names i) in
        let longer = ap length (appears_first name names new) ∙ length_push (first_appearances names) name in (
          λ t. let l = ltb-true (length (first_appearances names)) most t in omega (arith, longer, l),
          λ l. lt-ltb (length (first_appearances names)) most (omega (arith, longer, l)),
        )

-- the vertex of a name
pub vertex-means : (most : ℕ) (names : Names) (edges : EdgeNames) (classes : ClassNames) → AreKnown names edges classes
    → length (first_appearances names) ≤ most
    → (at : ℕ) (name : List ℕ) (left rest : Names) (x : NamedGraph × ℕ)
    → (vertex most (named_graph names edges classes) at (name ∷ left) ≡ Ok (x, rest))
    ↔ ((rest ≡ left) × (length name ≤ 32) × (length (first_appearances (names ++ name ∷ [])) ≤ most)
    × (x ≡ (named_graph (names ++ name ∷ []) edges classes, number_in (first_appearances (names ++ name ∷ [])) name)))
unfolding vertex spelled_vertex named
vertex-means most names edges classes known fits at name left rest x =
    let g = named_graph names edges classes in
    let seen = first_appearances names in
    let tests = tested {T = List ℕ} {A = NamedGraph × ℕ} (leb (length name) 32) (is_among seen name || ltb (length seen) most)
    (with_name g name, number_in (with_name g name).names name) x Vertices NameBytes (most + 1) (length name) at left rest in
    let may = room most names name fits in
    let becomes : (with_name g name, number_in (with_name g name).names name)
    ≡ (named_graph (names ++ name ∷ []) edges classes, number_in (first_appearances (names ++ name ∷ [])) name) =
    ap (λ (h : NamedGraph). (h, number_in h.names name)) (one_more_name names edges classes name known) in (
      λ e. let t = tests.0 e in (t.2, leb-true (length name) 32 t.0, may.0 t.1, t.3 ∙ becomes),
      λ h. tests.1 (le-leb (length name) 32 h.1, may.1 h.2, h.0, h.3 ∙ sym becomes),
    )

pub vertex-due : (most : ℕ) (g : NamedGraph) (at : ℕ) (x : NamedGraph × ℕ) (rest : Names) → vertex most g at [] ≢ Ok (x, rest)
unfolding vertex
vertex-due most g at x rest e = absurd (cc (e))

-- ---- vertices

free-means : (most : ℕ) (names : Names) (edges : EdgeNames) (classes : ClassNames) → AreKnown names edges classes
    → Fits most names edges (members_of classes)
    → (at : ℕ) (name : List ℕ) (left rest : Names) (x : NamedGraph)
    → (free_vertex most (named_graph names edges classes) at (name ∷ left) ≡ Ok (x, rest))
    ↔ ((rest ≡ left) × Fits most (names ++ name ∷ []) edges (members_of classes) × (x ≡ named_graph (names ++ name ∷ []) edges classes))
unfolding free_vertex
free-means most names edges classes known fits at name left rest x =
    let g = named_graph names edges classes in
    let one = vertex-means most names edges classes known fits.few_vertices at name left in
    let next : NamedGraph × ℕ → Place NamedGraph = λ v. give v.0 in (
      λ e.
          let parts = bind_ok next at (vertex most g at (name ∷ left)) (x, rest) e in
          let v = (one parts.0.1 parts.0.0).0 parts.1 in
          let same = same_given (parts.0.0.0, parts.0.1) (x, rest) parts.2 in (
            sym same.1 ∙ v.0,
            fits-name most names edges (members_of classes) (members_of classes) name fits v.1 v.2 fits.apart,
            sym same.0 ∙ ap (λ (p : NamedGraph × ℕ). p.0) v.3,
          ),
      λ h.
          let found : NamedGraph × ℕ = (named_graph (names ++ name ∷ []) edges classes, number_in (first_appearances (names ++ name ∷ [])) name) in
          let v : vertex most g at (name ∷ left) ≡ Ok (found, left) = (one left found).1 (refl, fits-short most names edges (members_of classes) name h.1, h.1.few_vertices, refl) in
          rw v (ap₂ (λ (a : NamedGraph) (r : Names). Ok (a, r)) (sym h.2) (sym h.0)),
    )

free-due : (most : ℕ) (x y : NamedGraph) (at : ℕ) (rest : Names) → free_vertex most x at [] ≢ Ok (y, rest)
unfolding free_vertex vertex
free-due most x y at rest e = absurd (cc (e))

pub vertices-mean : (most : ℕ) (names : Names) (edges : EdgeNames) (classes : ClassNames) → AreKnown names edges classes
    → Fits most names edges (members_of classes)
    → (at : ℕ) (ts rest : Names) (x : NamedGraph) → (some (free_vertex most) (named_graph names edges classes) at ts ≡ Ok (x, rest))
    ↔ ((0 < length ts) × (rest ≡ []) × Fits most (names ++ ts) edges (members_of classes) × (x ≡ named_graph (names ++ ts) edges classes))
unfolding free_vertex
vertices-mean most names edges classes known fits at ts rest x =
    let state : Names → NamedGraph = λ said. named_graph (names ++ said) edges classes in
    let Fine : Names → Type 0 = λ said. Fits most (names ++ said) edges (members_of classes) in
    let takes : TakesOne (free_vertex most) state Fine = record {
      front = λ said more. fits-front most (names ++ said) more (names ++ (said ++ more)) edges [] edges (members_of classes) [] (members_of classes)
          (sym (append_assoc names said more)) (sym (append-nil edges)) (sym (append-nil (members_of classes)));
      one = λ said at t left rest x fine. subst (λ all. (free_vertex most (state said) at (t ∷ left) ≡ Ok (x, rest))
          ↔ ((rest ≡ left) × Fits most all edges (members_of classes) × (x ≡ named_graph all edges classes)))
          (append_assoc names said (t ∷ [])) (free-means most (names ++ said) edges classes (known-more names said edges classes known) fine at t left rest x);
      due = λ x y at rest. free-due most x y at rest;
    } in
    let start = append-nil names in
    subst (λ (first : Names). (some (free_vertex most) (named_graph first edges classes) at ts ≡ Ok (x, rest))
    ↔ ((0 < length ts) × (rest ≡ []) × Fine ts × (x ≡ state ts))) start
    (some-items (free_vertex most) state Fine takes at ts rest x (subst (λ first. Fits most first edges (members_of classes)) (sym start) fits))

-- ---- the vertices of a class

members-grow : (classes : ClassNames) (names more : Names)
    → members_of (classes ++ (names ++ more) ∷ []) ≡ members_of (classes ++ names ∷ []) ++ more
members-grow classes names more =
    flat_map-append (λ members. members) classes ((names ++ more) ∷ [])
    ∙ ap (λ ms. members_of classes ++ ms) (append-nil (names ++ more) ∙ sym (ap (λ ns. ns ++ more) (append-nil names)))
    ∙ sym (append_assoc (members_of classes) (names ++ []) more)
    ∙ ap (λ ms. ms ++ more) (sym (flat_map-append (λ members. members) classes (names ∷ [])))

members-begin : (classes : ClassNames) → members_of (classes ++ [] ∷ []) ≡ members_of classes
members-begin classes = flat_map-append (λ members. members) classes ([] ∷ []) ∙ append-nil (members_of classes)

distinct_push : (names : Names) (name : List ℕ) → IsDistinct (names ++ name ∷ []) ↔ (IsDistinct names × ¬ (In name names))
distinct_push names name = (
  λ h. (distinct_left names (name ∷ []) h, λ i. distinct_apart names (name ∷ []) h name i (inl refl)),
  λ h. distinct_append names (name ∷ []) h.0 ((λ i. i), tt) (λ x i j. elim j [ inl e ↦ h.1 (subst (λ z. In z names) e i) | inr k ↦ k ]),
)

class_at : (names : Names) (classes : ClassNames) (name : List ℕ) → In name names
    → slice_index_or (map (class_of classes) (first_appearances names)) (number_in (first_appearances names) name) None ≡ class_of classes name
class_at names classes name there =
    let seen = first_appearances names in
    let stands = number_stands name seen (In-appearing name names there) in
    get_or-map (class_of classes) seen (number_in seen name) [] None stands.0 ∙ ap (class_of classes) stands.1

-- the vertex is put into the class where it is in none
put-means : (names : Names) (edges : EdgeNames) (classes : ClassNames) (last : Names) (name : List ℕ) → In name names
    → (k : Option ℕ) → k ≡ class_of (classes ++ last ∷ []) name → (at : ℕ) (left rest : Names) (x : NamedGraph)
    → (put_in (length classes) (named_graph names edges (classes ++ last ∷ [])) (number_in (first_appearances names) name) k at left ≡ Ok (x, rest))
    ↔ ((rest ≡ left) × ¬ (In name (members_of (classes ++ last ∷ []))) × (x ≡ named_graph names edges (classes ++ (last ++ name ∷ []) ∷ [])))
put-means names edges classes last name there (Some other) is at left rest x = (
  λ e. absurd (cc (e)),
  λ h. absurd (cc (is, in_no_class (classes ++ last ∷ []) name h.1)),
)
put-means names edges classes last name there None is at left rest x =
    let all = classes ++ last ∷ [] in
    let new : ¬ (In name (members_of all)) = λ i. let k : class_of all name ≡ Some (place all name) = in_a_class all name i in absurd (cc (is, k)) in
    let earlier : ¬ (In name (members_of classes)) = λ i.
    new (subst (In name) (sym (flat_map-append (λ members. members) classes (last ∷ []))) (In-append_left name (members_of classes) (members_of (last ∷ [])) i)) in
    let with_class = record (named_graph names edges all) { classes = slice_set (named_graph names edges all).classes (number_in (first_appearances names) name) (Some (length classes)) } in
    let put = one_more_member names edges classes last name there earlier in (
      λ e. let same = same_given (with_class, left) (x, rest) e in (sym same.1, new, sym same.0 ∙ put),
      λ h. ap₂ (λ (a : NamedGraph) (r : Names). Ok (a, r)) (put ∙ sym h.2) (sym h.0),
    )

class-means : (most : ℕ) (names : Names) (edges : EdgeNames) (classes : ClassNames) (last : Names)
    → AreKnown names edges (classes ++ last ∷ []) → Fits most names edges (members_of (classes ++ last ∷ []))
    → (at : ℕ) (name : List ℕ) (left rest : Names) (x : NamedGraph)
    → (class_vertex most (length classes) (named_graph names edges (classes ++ last ∷ [])) at (name ∷ left) ≡ Ok (x, rest))
    ↔ ((rest ≡ left) × Fits most (names ++ name ∷ []) edges (members_of (classes ++ (last ++ name ∷ []) ∷ []))
    × (x ≡ named_graph (names ++ name ∷ []) edges (classes ++ (last ++ name ∷ []) ∷ [])))
unfolding class_vertex
class-means most names edges classes last known fits at name left rest x =
    let all = classes ++ last ∷ [] in
    let g = named_graph names edges all in
    let more = names ++ name ∷ [] in
    let there = In-append_right name names (name ∷ []) (inl refl) in
    let number = number_in (first_appearances more) name in
    let grown = members-grow classes last (name ∷ []) in
    let one = vertex-means most names edges all known fits.few_vertices at name left in
    let next : NamedGraph × ℕ → Place NamedGraph = λ v. put_in (length classes) v.0 v.1 (slice_index_or v.0.classes v.1 None) in
    let puts = put-means more edges classes last name there (slice_index_or (named_graph more edges all).classes number None) (class_at more all name there) at left in (
      λ e.
          let parts = bind_ok next at (vertex most g at (name ∷ left)) (x, rest) e in
          let v = (one parts.0.1 parts.0.0).0 parts.1 in
          let put = (puts rest x).0 (of_both (λ v r. next v at r ≡ Ok (x, rest)) parts.0.0 (named_graph more edges all, number) parts.0.1 left v.3 v.0 parts.2) in (
            put.0,
            fits-name most names edges (members_of all) _ name fits v.1 v.2
                (subst IsDistinct (sym grown) ((distinct_push (members_of all) name).1 (fits.apart, put.1))),
            put.2,
          ),
      λ h.
          let apart = (distinct_push (members_of all) name).0 (subst IsDistinct grown h.1.apart) in
          let v : vertex most g at (name ∷ left) ≡ Ok ((named_graph more edges all, number), left) =
          (one left (named_graph more edges all, number)).1 (refl, fits-short most names edges _ name h.1, h.1.few_vertices, refl) in
          rw v ((puts rest x).1 (h.0, apart.1, h.2)),
    )

class-due : (most class : ℕ) (x y : NamedGraph) (at : ℕ) (rest : Names) → class_vertex most class x at [] ≢ Ok (y, rest)
unfolding class_vertex vertex
class-due most class x y at rest e = absurd (cc (e))

pub class-mean : (most : ℕ) (names : Names) (edges : EdgeNames) (classes : ClassNames) → AreKnown names edges classes
    → Fits most names edges (members_of classes)
    → (at : ℕ) (ts rest : Names) (x : NamedGraph)
    → (some (class_vertex most (length classes)) (named_graph names edges classes) at ts ≡ Ok (x, rest))
    ↔ ((0 < length ts) × (rest ≡ []) × Fits most (names ++ ts) edges (members_of (classes ++ ts ∷ [])) × (x ≡ named_graph (names ++ ts) edges (classes ++ ts ∷ [])))
class-mean most names edges classes known fits at ts rest x =
    let state : Names → NamedGraph = λ said. named_graph (names ++ said) edges (classes ++ said ∷ []) in
    let Fine : Names → Type 0 = λ said. Fits most (names ++ said) edges (members_of (classes ++ said ∷ [])) in
    let takes : TakesOne (class_vertex most (length classes)) state Fine = record {
      front = λ said more. fits-front most (names ++ said) more (names ++ (said ++ more)) edges [] edges (members_of (classes ++ said ∷ [])) more (members_of (classes ++ (said ++ more) ∷ []))
          (sym (append_assoc names said more)) (sym (append-nil edges)) (members-grow classes said more);
      one = λ said at t left rest x fine. subst (λ all. (class_vertex most (length classes) (state said) at (t ∷ left) ≡ Ok (x, rest))
          ↔ ((rest ≡ left) × Fits most all edges (members_of (classes ++ (said ++ t ∷ []) ∷ [])) × (x ≡ named_graph all edges (classes ++ (said ++ t ∷ []) ∷ []))))
          (append_assoc names said (t ∷ [])) (class-means most (names ++ said) edges classes said (known-class names said edges classes known) fine at t left rest x);
      due = λ x y at rest. class-due most (length classes) x y at rest;
    } in
    let start : state [] ≡ named_graph names edges classes = class_begins (names ++ []) edges classes ∙ ap (λ ns. named_graph ns edges classes) (append-nil names) in
    subst (λ (first : NamedGraph). (some (class_vertex most (length classes)) first at ts ≡ Ok (x, rest))
    ↔ ((0 < length ts) × (rest ≡ []) × Fine ts × (x ≡ state ts))) start
    (some-items (class_vertex most (length classes)) state Fine takes at ts rest x
    (record {
      short = subst (AllByRecursion (λ name. length name ≤ 32)) (sym (append-nil names)) fits.short;
      few_vertices = let l = fits.few_vertices in let e = ap (λ ns. length (first_appearances ns)) (append-nil names) in omega (arith, l, e);
      few_edges = fits.few_edges;
      apart = subst IsDistinct (sym (members-begin classes)) fits.apart;
    }))
