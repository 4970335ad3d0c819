-- Which graph the names of two ends give.
use Rattle.std.proofs.Common.{◌≡◌, ℕ, ◌↔◌, ◌<◌, ◌≤◌, List, [], ◌∷◌, ◌++◌, length, Bool, true, false, cond, Ok, refl, sym, ap, ap₂, ◌∙◌, subst, inl, append_assoc, arith, ltb}
use Rattle.std.proofs.lemmas.Bool.{lt-ltb, ltb-true}
use Rattle.std.proofs.lemmas.List.{length_push, length-map}
use Rattle.vector_spaces.proofs.Members.{In-append_right}
use Rattle.graph_core.specs.NamedGraphs.{NamedGraph}
use Rattle.text_forms.specs.Places.{Place}
use Rattle.line_lexer.specs.declared.refusal.Counted.{Counted}
use Rattle.line_lexer.specs.declared.refusal.Counted.TheVariants.{Edges}
use Rattle.text_forms.specs.Reading.{◌>>=◌, give, above}
use Rattle.text_forms.proofs.Taking.{bind_ok, same_given}
use Rattle.graph_text.specs.Statements.{first_appearances, number_in, named_graph}
use Rattle.graph_text.specs.Texts.{vertex, two_ends, edge_within}
use Rattle.graph_text.proofs.Appearances.{number_after}
use Rattle.graph_text.proofs.EachMeans.{of_both}
use Rattle.graph_text.proofs.Fits.{Fits, all-append, more_appear}
use Rattle.graph_text.proofs.GraphGrowth.{AreKnown, members_of, known-more, one_more_edge}
use Rattle.graph_text.proofs.NamesMean.{vertex-means, vertex-due}
use Rattle.graph_text.proofs.KnownNames.{Names, EdgeNames, ClassNames}

two-mean : (most : ℕ) (names : Names) (edges : EdgeNames) (classes : ClassNames) → AreKnown names edges classes
    → Fits most names edges (members_of classes) → length edges < 512
    → (at : ℕ) (a b : List ℕ) (left rest : Names) (x : NamedGraph)
    → (two_ends most (named_graph names edges classes) at (a ∷ b ∷ left) ≡ Ok (x, rest))
    ↔ ((rest ≡ left)
    × Fits most ((names ++ a ∷ []) ++ b ∷ []) (edges ++ (a, b) ∷ []) (members_of classes)
    × (x ≡ named_graph ((names ++ a ∷ []) ++ b ∷ []) (edges ++ (a, b) ∷ []) classes))
unfolding two_ends
two-mean most names edges classes known fits room at a b left rest x =
    let g = named_graph names edges classes in
    let names₁ = names ++ a ∷ [] in
    let names₂ = names₁ ++ b ∷ [] in
    let g₁ = named_graph names₁ edges classes in
    let g₂ = named_graph names₂ edges classes in
    let n₁ = number_in (first_appearances names₁) a in
    let n₂ = number_in (first_appearances names₂) b in
    let put : NamedGraph × ℕ → NamedGraph × ℕ → Place NamedGraph = λ first second. give (record second.0 { ends = second.0.ends ++ (first.1, second.1) ∷ [] }) in
    let then : NamedGraph × ℕ → Place NamedGraph = λ first. vertex most first.0 >>= put first in
    let one = vertex-means most names edges classes known fits.few_vertices at a (b ∷ left) in
    let known₁ = known-more names (a ∷ []) edges classes known in
    let with_edge = record g₂ { ends = g₂.ends ++ (n₁, n₂) ∷ [] } in
    let stays : number_in (first_appearances names₂) a ≡ n₁ = number_after a b names₁ (In-append_right a names (a ∷ []) (inl refl)) in
    let becomes : with_edge ≡ named_graph names₂ (edges ++ (a, b) ∷ []) classes =
    ap (λ n. record g₂ { ends = g₂.ends ++ (n, n₂) ∷ [] }) (sym stays) ∙ one_more_edge names₂ edges classes a b in (
      λ e.
          let p = bind_ok then at (vertex most g at (a ∷ b ∷ left)) (x, rest) e in
          let v = (one p.0.1 p.0.0).0 p.1 in
          let two = vertex-means most names₁ edges classes known₁ v.2 at b left in
          let e' : then (g₁, n₁) at (b ∷ left) ≡ Ok (x, rest) = of_both (λ f r. then f at r ≡ Ok (x, rest)) p.0.0 (g₁, n₁) p.0.1 (b ∷ left) v.3 v.0 p.2 in
          let q = bind_ok (put (g₁, n₁)) at (vertex most g₁ at (b ∷ left)) (x, rest) e' in
          let w = (two q.0.1 q.0.0).0 q.1 in
          let e'' : put (g₁, n₁) (g₂, n₂) at left ≡ Ok (x, rest) = of_both (λ f r. put (g₁, n₁) f at r ≡ Ok (x, rest)) q.0.0 (g₂, n₂) q.0.1 left w.3 w.0 q.2 in
          let same = same_given (with_edge, left) (x, rest) e'' in
          let longer = length_push edges (a, b) in (
            sym same.1,
            record {
              short = (all-append (λ name. length name ≤ 32) names₁ (b ∷ [])).1 ((all-append (λ name. length name ≤ 32) names (a ∷ [])).1 (fits.short, (v.1, tt)), (w.1, tt));
              few_vertices = w.2;
              few_edges = omega (arith, room, longer);
              apart = fits.apart;
            },
            sym same.0 ∙ becomes,
          ),
      λ h.
          let short = (all-append (λ name. length name ≤ 32) names₁ (b ∷ [])).0 h.1.short in
          let few : length (first_appearances names₁) ≤ most = let l = h.1.few_vertices in let m = more_appear names₁ (b ∷ []) in omega (arith, l, m) in
          let v : vertex most g at (a ∷ b ∷ left) ≡ Ok ((g₁, n₁), b ∷ left) =
          (one (b ∷ left) (g₁, n₁)).1 (refl, ((all-append (λ name. length name ≤ 32) names (a ∷ [])).0 short.0).1.0, few, refl) in
          let w : vertex most g₁ at (b ∷ left) ≡ Ok ((g₂, n₂), left) =
          (vertex-means most names₁ edges classes known₁ few at b left left (g₂, n₂)).1 (refl, short.1.0, h.1.few_vertices, refl) in
          rw (v, w) (ap₂ (λ (f : NamedGraph) (r : Names). Ok (f, r)) (becomes ∙ sym h.2) (sym h.0)),
    )

none-given : (most : ℕ) (g : NamedGraph) (at : ℕ) (x : NamedGraph) (rest : Names) → two_ends most g at [] ≡ Ok (x, rest) → ⊥
unfolding two_ends vertex
none-given most g at x rest e = absurd (cc (e))

one-given : (most : ℕ) (names : Names) (edges : EdgeNames) (classes : ClassNames) → AreKnown names edges classes
    → length (first_appearances names) ≤ most
    → (at : ℕ) (a : List ℕ) (x : NamedGraph) (rest : Names) → two_ends most (named_graph names edges classes) at (a ∷ []) ≡ Ok (x, rest) → ⊥
unfolding two_ends
one-given most names edges classes known fits at a x rest e =
    let put : NamedGraph × ℕ → NamedGraph × ℕ → Place NamedGraph = λ first second. give (record second.0 { ends = second.0.ends ++ (first.1, second.1) ∷ [] }) in
    let p = bind_ok (λ first. vertex most first.0 >>= put first) at (vertex most (named_graph names edges classes) at (a ∷ [])) (x, rest) e in
    let v = (vertex-means most names edges classes known fits at a [] p.0.1 p.0.0).0 p.1 in
    let q = bind_ok (put p.0.0) at (vertex most p.0.0.0 at p.0.1) (x, rest) p.2 in
    vertex-due most p.0.0.0 at q.0.0 q.0.1 (ap (vertex most p.0.0.0 at) (sym v.0) ∙ q.1)

within-is : {A : Type 0} (b : Bool) (one : Place A) (what : Counted) (found at : ℕ) (words rest : Names) (x : A)
    → (cond b one (above what found) at words ≡ Ok (x, rest)) ↔ ((b ≡ true) × (one at words ≡ Ok (x, rest)))
within-is true one what found at words rest x = (λ e. (refl, e), λ h. h.1)
within-is false one what found at words rest x = (λ e. absurd (cc (e)), λ h. absurd (cc (h.0)))

-- an edge, by its two names
pub edge-mean : (most : ℕ) (names : Names) (edges : EdgeNames) (classes : ClassNames) → AreKnown names edges classes
    → Fits most names edges (members_of classes)
    → (at : ℕ) (words rest : Names) (x : NamedGraph) → (edge_within most (named_graph names edges classes) at words ≡ Ok (x, rest))
    ↔ ((a : List ℕ) × (b : List ℕ) × (words ≡ a ∷ b ∷ rest) × Fits most (names ++ a ∷ b ∷ []) (edges ++ (a, b) ∷ []) (members_of classes)
    × (x ≡ named_graph (names ++ a ∷ b ∷ []) (edges ++ (a, b) ∷ []) classes))
unfolding edge_within
edge-mean most names edges classes known fits at words rest x =
    let g = named_graph names edges classes in
    let within = within-is (ltb (length g.ends) 512) (two_ends most g) Edges 513 at words rest x in
    let as_many = length-map {B = ℕ × ℕ} edges (λ (e : List ℕ × List ℕ). (number_in (first_appearances names) e.0, number_in (first_appearances names) e.1)) in (
      λ e. let h = within.0 e in let room = ltb-true (length g.ends) 512 h.0 in from words (omega (arith, room, as_many)) h.1,
      λ h.
          let room : length edges < 512 = let l = h.3.few_edges in let longer = length_push edges (h.0, h.1) in omega (arith, l, longer) in
          let all = sym (append_assoc names (h.0 ∷ []) (h.1 ∷ [])) in
          let longer = edges ++ (h.0, h.1) ∷ [] in
          let both = (two-mean most names edges classes known fits room at h.0 h.1 rest rest x).1
          (refl, subst (λ ns. Fits most ns longer (members_of classes)) all h.3, h.4 ∙ ap (λ ns. named_graph ns longer classes) all) in
          within.1 (lt-ltb (length g.ends) 512 (omega (arith, room, as_many)), ap (two_ends most g at) h.2 ∙ both),
    )
  where
    from : (words : Names) → length edges < 512 → two_ends most (named_graph names edges classes) at words ≡ Ok (x, rest)
        → (a : List ℕ) × (b : List ℕ) × (words ≡ a ∷ b ∷ rest) × Fits most (names ++ a ∷ b ∷ []) (edges ++ (a, b) ∷ []) (members_of classes)
        × (x ≡ named_graph (names ++ a ∷ b ∷ []) (edges ++ (a, b) ∷ []) classes)
    from [] room e = absurd (none-given most (named_graph names edges classes) at x rest e)
    from (a ∷ []) room e = absurd (one-given most names edges classes known fits.few_vertices at a x rest e)
    from (a ∷ b ∷ left) room e =
        let h = (two-mean most names edges classes known fits room at a b left rest x).0 e in
        let all = append_assoc names (a ∷ []) (b ∷ []) in (
          a,
          b,
          ap (λ r. a ∷ b ∷ r) (sym h.0),
          subst (λ ns. Fits most ns (edges ++ (a, b) ∷ []) (members_of classes)) all h.1,
          h.2 ∙ ap (λ ns. named_graph ns (edges ++ (a, b) ∷ []) classes) all,
        )
