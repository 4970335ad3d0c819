-- Which graph a whole text gives: that which its lines spell. And that it is a graph within the limits.
use Rattle.std.proofs.Common.{◌≡◌, ℕ, zero, suc, ◌↔◌, ◌<◌, ◌≤◌, List, [], ◌∷◌, ◌++◌, length, All, None, Some, Option, Ok, refl, sym, ap, ap₂, ◌∙◌, subst, inl, inr, arith, map}
use Rattle.std.specs.Prelude.{◌≢◌, codes, slice_index_or}
use Rattle.std.specs.List.{AllByRecursion, AllPairs, flat_map}
use Rattle.std.proofs.lemmas.Grind.{flat_map-append}
use Rattle.std.proofs.lemmas.List.{length-map, append-nil}
use Rattle.line_lexer.specs.Lines.{Line, lines, lines_from}
use Rattle.text_forms.specs.Forms.{Form, line, version, of_text}
use Rattle.text_forms.specs.Reading.{◌>>=◌, give}
use Rattle.text_forms.proofs.LinesTake.{line-ok, Takes-version_line}
use Rattle.text_forms.proofs.Taking.{chain-ok}
use Rattle.vector_spaces.proofs.Distinct.{IsDistinct}
use Rattle.vector_spaces.proofs.Members.{In, In_map-from, In-flat_map, In_flat_map-from, In-get_or, all-In}
use Rattle.graph_core.specs.NamedGraphs.{NamedGraph, IsNamedGraph}
use Rattle.graph_text.specs.Spells.{SpellsGraph}
use Rattle.graph_text.specs.Statements.{Statement, vertices, edge, class, statement_words, names_in, edges_in, classes_in, names_of, edges_of, classes_of, first_appearances, number_in, graph_of, HasName, AreWithin}
use Rattle.graph_text.specs.Texts.{Begun, statement, statements, nothing, graph}
use Rattle.graph_text.proofs.Appearances.{appearing-In, In-appearing, distinct-appearing, number_stands}
use Rattle.graph_text.proofs.ClassNumbers.{classes_below}
use Rattle.graph_text.proofs.EachMeans.{SayAll, ReadsOne, SaysMore, each-means}
use Rattle.graph_text.proofs.Fits.{Fits, all-append, fits-front}
use Rattle.graph_text.proofs.GraphGrowth.{AreKnown, members_of}
use Rattle.graph_text.proofs.LinesMean.{begun, made-ok, statement-means}
use Rattle.graph_text.proofs.KnownNames.{Names, EdgeNames, ClassNames}

fits-of : (most : ℕ) (said : List Statement) → AreWithin most said
    → Fits most (names_of said) (edges_of said) (members_of (classes_of said))
fits-of most said h = record { short = h.short; few_vertices = h.few_vertices; few_edges = h.few_edges; apart = h.apart }

within-of : (most : ℕ) (said : List Statement) → AllByRecursion HasName said
    → Fits most (names_of said) (edges_of said) (members_of (classes_of said)) → AreWithin most said
within-of most said some h = record { some = some; short = h.short; few_vertices = h.few_vertices; few_edges = h.few_edges; apart = h.apart }

-- the names of edges and classes are names of the text
known-of : (said : List Statement) → AreKnown (names_of said) (edges_of said) (classes_of said)
known-of said = record {
  ends = λ e i.
      let at = In_flat_map-from edges_in said e i in
      let ends = ends_in at.0 e at.2 in
      (In-flat_map names_in said at.0 e.0 at.1 ends.0, In-flat_map names_in said at.0 e.1 at.1 ends.1);
  members = λ name i.
      let c = In_flat_map-from (λ members. members) (classes_of said) name i in
      let at = In_flat_map-from classes_in said c.0 c.1 in
      In-flat_map names_in said at.0 name at.1 (member_in at.0 c.0 name at.2 c.2);
}
  where
    ends_in : (s : Statement) (e : List ℕ × List ℕ) → In e (edges_in s) → In e.0 (names_in s) × In e.1 (names_in s)
    ends_in (vertices names) e i = absurd i
    ends_in (edge first second) e (inl same) = (inl (ap (λ (p : List ℕ × List ℕ). p.0) same), inr (inl (ap (λ (p : List ℕ × List ℕ). p.1) same)))
    ends_in (edge first second) e (inr i) = absurd i
    ends_in (class names) e i = absurd i

    member_in : (s : Statement) (c : Names) (name : List ℕ) → In c (classes_in s) → In name c → In name (names_in s)
    member_in (vertices names) c name i j = absurd i
    member_in (edge first second) c name i j = absurd i
    member_in (class names) c name (inl same) j = subst (λ ns. In name ns) same j
    member_in (class names) c name (inr i) j = absurd i

of_push : {X Y : Type 0} (f : X → List Y) (xs : List X) (x : X) → flat_map f (xs ++ x ∷ []) ≡ flat_map f xs ++ f x
of_push f xs x = flat_map-append f xs (x ∷ []) ∙ ap (λ ys. flat_map f xs ++ ys) (append-nil (f x))

abbrev state : List Statement → Begun
state said = begun (names_of said) (edges_of said) (classes_of said)

abbrev Says : Statement → Line → Type 0
Says s l = l.words ≡ Some (statement_words s)

-- with one statement more
abbrev Parts : Type 0
Parts = Names × EdgeNames × ClassNames

abbrev parts : List Statement → Parts
parts said = (names_of said, edges_of said, classes_of said)

abbrev parts_and : List Statement → Statement → Parts
parts_and said s = (names_of said ++ names_in s, edges_of said ++ edges_in s, classes_of said ++ classes_in s)

parts-push : (said : List Statement) (s : Statement) → parts (said ++ s ∷ []) ≡ parts_and said s
parts-push said s = cc (of_push names_in said s, of_push edges_in said s, of_push classes_in said s)

within-front : (most : ℕ) (said more : List Statement) → AreWithin most (said ++ more) → AreWithin most said
within-front most said more h =
    within-of most said ((all-append HasName said more).0 h.some).0
    (fits-front most (names_of said) (names_of more) (names_of (said ++ more)) (edges_of said) (edges_of more) (edges_of (said ++ more))
    (members_of (classes_of said)) (members_of (classes_of more)) (members_of (classes_of (said ++ more)))
    (flat_map-append names_in said more) (flat_map-append edges_in said more)
    (ap members_of (flat_map-append classes_in said more) ∙ flat_map-append (λ members. members) (classes_of said) (classes_of more))
    (fits-of most (said ++ more) h))

line-means : (most : ℕ) (said : List Statement) (last : ℕ) (l : Line) (left rest : List Line) (x : Begun) → AreWithin most said
    → (line (statement most (state said)) last (l ∷ left) ≡ Ok (x, rest))
    ↔ ((s : Statement) × (rest ≡ left) × Says s l × AreWithin most (said ++ s ∷ []) × (x ≡ state (said ++ s ∷ [])))
line-means most said last l left rest x within =
    let reads = line-ok (statement most (state said)) last (l ∷ left) rest x in
    let means = λ (at : ℕ) (words : Names). statement-means most (names_of said) (edges_of said) (classes_of said) (known-of said) (fits-of most said within) at words x in (
      λ e.
          let h = reads.0 e in
          let one = (means h.0 h.1).0 h.3 in
          let same : l ≡ record { number = h.0; words = Some h.1 } = cc (h.2) in
          let all = parts-push said one.said in (
            one.said,
            cc (h.2),
            ap (λ (l : Line). l.words) same ∙ ap Some one.words_are,
            within-of most (said ++ one.said ∷ []) ((all-append HasName said (one.said ∷ [])).1 (within.some, (one.some, tt)))
                (subst (λ (p : Parts). Fits most p.0 p.1 (members_of p.2)) (sym all) one.fits),
            one.is ∙ ap (λ (p : Parts). begun p.0 p.1 p.2) (sym all),
          ),
      λ h.
          let all = parts-push said h.0 in
          reads.1 (
            l.number,
            statement_words h.0,
            ap₂ (λ (o : Option (Names)) (r : List Line). record { number = l.number; words = o } ∷ r) h.2 (sym h.1),
            (means l.number (statement_words h.0)).1 (record {
              said = h.0;
              words_are = refl;
              some = ((all-append HasName said (h.0 ∷ [])).0 h.3.some).1.0;
              fits = subst (λ (p : Parts). Fits most p.0 p.1 (members_of p.2)) all (fits-of most (said ++ h.0 ∷ []) h.3);
              is = h.4 ∙ ap (λ (p : Parts). begun p.0 p.1 p.2) all;
            }),
          ),
    )

-- lines that say statements have their words
says-words : (said : List Statement) (ls : List Line) → SayAll Says said ls
    ↔ (map (λ line. line.words) ls ≡ map (λ statement. Some (statement_words statement)) said)
says-words [] [] = (λ h. refl, λ h. tt)
says-words [] (l ∷ ls) = (λ h. absurd h, λ h. absurd (cc (h)))
says-words (s ∷ said) [] = (λ h. absurd h, λ h. absurd (cc (h)))
says-words (s ∷ said) (l ∷ ls) =
    let more = says-words said ls in
    (λ h. ap₂ (λ (o : Option (Names)) (os : List (Option (Names))). o ∷ os) h.0 (more.0 h.1), λ h. (cc (h), more.1 (cc (h))))

statements-mean : (most last : ℕ) (text rest : List Line) (x : Begun) → (statements most nothing last text ≡ Ok (x, rest))
    ↔ SaysMore Says state (AreWithin most) [] text x rest
statements-mean most last text rest x =
    let reads : ReadsOne (λ s. line (statement most s)) Says state (AreWithin most) = record {
      front = within-front most;
      one = λ said at l left rest x within. line-means most said at l left rest x within;
    } in
    each-means (λ s. line (statement most s)) Says state (AreWithin most) reads [] last text rest x
    (record { some = tt; short = tt; few_vertices = omega arith; few_edges = omega arith; apart = tt })

-- a text gives a graph exactly where its lines spell it
pub graph-means : (most last : ℕ) (text rest : List Line) (g : NamedGraph) → (graph most last text ≡ Ok (g, rest))
    ↔ ((rest ≡ []) × SpellsGraph most g text)
unfolding graph graph_of
graph-means most last text rest g =
    let first = line (version (codes "graph")) in
    let behind : Form NamedGraph = statements most nothing >>= λ s. give s.graph in
    let chain = chain-ok first (λ (_ : Unit {0}). behind) last text rest g in (
      λ e.
          let h = chain.0 e in
          let head = (Takes-version_line (codes "graph") last text h.1 h.0).0 h.2 in
          let made = (made-ok (λ (s : Begun). s.graph) (statements most nothing) last h.1 rest g).0 h.3 in
          let all = (statements-mean most last h.1 rest made.0).0 made.1 in (
            all.1,
            record {
              version = head.0;
              lines = h.1;
              statements = all.0;
              text_is = head.1;
              spells_version = head.2;
              spells_lines = (says-words all.0 h.1).0 all.2;
              within = all.3;
              graph_is = made.2 ∙ ap (λ (s : Begun). s.graph) all.4;
            },
          ),
      λ h.
          let w = h.1 in
          let head : first last text ≡ Ok (tt, w.lines) = (Takes-version_line (codes "graph") last text w.lines tt).1 (w.version, w.text_is, w.spells_version) in
          let read = (statements-mean most last w.lines rest (state w.statements)).1 (w.statements, h.0, (says-words w.statements w.lines).1 w.spells_lines, w.within, refl) in
          chain.1 (tt, w.lines, head, (made-ok (λ (s : Begun). s.graph) (statements most nothing) last w.lines rest g).1 (state w.statements, read, w.graph_is)),
    )

pub bytes-mean : (most : ℕ) (bytes : List ℕ) (g : NamedGraph) → (of_text (graph most) bytes ≡ Ok (g, []))
    ↔ SpellsGraph most g (lines_from 1 bytes)
bytes-mean most bytes g =
    let all = graph-means most (length (lines bytes)) (lines_from 1 bytes) [] g in
    (λ e. (all.0 e).1, λ h. all.1 (refl, h))

-- ---- limits

distinct-pairs : (names : Names) → IsDistinct names → AllPairs (λ x y. x ≢ y) names
distinct-pairs [] h i j d l m = absurd (omega (arith, m))
distinct-pairs (n ∷ names) h zero zero d l m = absurd (omega (arith, l))
distinct-pairs (n ∷ names) h zero (suc j) d l m = λ e. h.0 (subst (λ x. In x names) (sym e) (In-get_or names j d (omega (arith, m))))
distinct-pairs (n ∷ names) h (suc i) zero d l m = absurd (omega (arith, l))
distinct-pairs (n ∷ names) h (suc i) (suc j) d l m = distinct-pairs names h.1 i j d (omega (arith, l)) (omega (arith, m))

-- a graph within the limits
abbrev pub IsWithin : ℕ → NamedGraph → Type 0
IsWithin most g = IsNamedGraph g × (length g.names ≤ most) × (length g.ends ≤ 512) × All (λ name. length name ≤ 32) g.names

graph-limits : (most : ℕ) (said : List Statement) → AreWithin most said
    → IsWithin most (graph_of said)
unfolding graph_of
graph-limits most said within =
    let seen = first_appearances (names_of said) in
    let known = known-of said in
    let numbered : List ℕ × List ℕ → ℕ × ℕ = λ e. (number_in seen e.0, number_in seen e.1) in
    let stands : (name : List ℕ) → In name (names_of said) → number_in seen name < length seen =
    λ name i. (number_stands name seen (In-appearing name (names_of said) i)).0 in (
      record {
        different = distinct-pairs seen (distinct-appearing (names_of said));
        within = all-In (λ (e : ℕ × ℕ). (e.0 < length seen) × (e.1 < length seen)) _ (λ e i.
            let f = In_map-from numbered e (edges_of said) i in
            let ends = known.ends f.0 f.1 in
            subst (λ (e : ℕ × ℕ). (e.0 < length seen) × (e.1 < length seen)) (sym f.2) (stands f.0.0 ends.0, stands f.0.1 ends.1));
        classed = length-map seen _;
      },
      within.few_vertices,
      let few = within.few_edges in
          let as_many = length-map (edges_of said) numbered in
          omega (arith, few, as_many),
      all-In (λ name. length name ≤ 32) seen (λ name i. all_in (names_of said) within.short name (appearing-In name (names_of said) i)),
    )
  where
    all_in : (names : Names) → AllByRecursion (λ name. length name ≤ 32) names → (name : List ℕ) → In name names → length name ≤ 32
    all_in [] h name i = absurd i
    all_in (n ∷ names) h name (inl e) = subst (λ x. length x ≤ 32) (sym e) h.0
    all_in (n ∷ names) h name (inr i) = all_in names h.1 name i

pub read-limits : (most last : ℕ) (text rest : List Line) (g : NamedGraph) → graph most last text ≡ Ok (g, rest) → IsWithin most g
read-limits most last text rest g e =
    let w = ((graph-means most last text rest g).0 e).1 in
    subst (IsWithin most) (sym w.graph_is) (graph-limits most w.statements w.within)

pub read-classes : (most last : ℕ) (text rest : List Line) (g : NamedGraph) → graph most last text ≡ Ok (g, rest)
    → (v c : ℕ) → slice_index_or g.classes v None ≡ Some c → c < length g.names
read-classes most last text rest g e =
    let w = ((graph-means most last text rest g).0 e).1 in
    subst (λ g. (v c : ℕ) → slice_index_or g.classes v None ≡ Some c → c < length g.names) (sym w.graph_is)
    (classes_below most w.statements (known-of w.statements) w.within)
