-- The graphs in which an object is looked for: what `convert` accepts, and the limits that a read graph is within.
use Rattle.std.proofs.Common.{◌≡◌, ℕ, ◌+◌, ◌<◌, ◌≤◌, List, length, All, Bool, true, false, Option, None, Some, Result, Ok, Err}
use Rattle.std.proofs.Common.{refl, sym, ap, subst, arith}
use Rattle.std.specs.Prelude.{nat_lt, if◌then◌else◌, slice_index_or}
use Rattle.std.proofs.lemmas.Bool.{ltb-false}
use Rattle.graph_core.specs.NamedGraphs.{NamedGraph, IsNamedGraph}
use Rattle.graph_text.specs.Texts.{graph}
use Rattle.line_lexer.specs.Lines.{Line, lines, lines_from}
use Rattle.line_lexer.specs.Seen.{most_bytes}
use Rattle.line_lexer.specs.declared.refusal.Counted.TheVariants.{Bytes, Edges, Triangles, Pairs, CycleRank}
use Rattle.line_lexer.specs.declared.refusal.Counted.{Counted}
use Rattle.line_lexer.specs.declared.refusal.TextRefusal.{TextRefusal}
use Rattle.parity_program.proofs.FirstApart.{connects}
use Rattle.parity_program.proofs.FirstNotCubic.{is_cubic}
use Rattle.parity_program.specs.AdjacentPairs.{cycle_rank, pair_count}
use Rattle.parity_program.specs.Connectedness.{first_apart}
use Rattle.parity_program.specs.CubicVertices.{first_not_cubic}
use Rattle.parity_program.specs.Inputs.{Input, accepted, graph_for, unless_unfit, reading}
use Rattle.parity_program.specs.Inputs.{most_cycle_rank, most_edges, most_pairs, most_triangles, most_vertices}
use Rattle.parity_program.specs.Inputs.{then_check, unless_apart, unless_not_cubic}
use Rattle.parity_program.specs.Inputs.{with_few_cycles, with_few_edges, with_few_triangles, with_small_rank}
use Rattle.parity_program.specs.Inputs.Input.{generated, of_graph}
use Rattle.parity_program.specs.Shown.{HasFewClasses, HasFewEdges, IsConnectedCubicGraph, IsConnectedGraph, Suits}
use Rattle.parity_program.specs.Triangles.{triangle_count}
use Rattle.parity_program.specs.declared.command.Command.TheVariants.{OfText}
use Rattle.parity_program.specs.declared.command.Convertible.{Convertible}
use Rattle.parity_program.specs.declared.command.Convertible.TheVariants.{Matching, Cactus, PathFamily, Rotation}
use Rattle.parity_program.specs.declared.command.GraphCommand.TheVariants.{Convert}
use Rattle.parity_program.specs.declared.command.GraphObject.{GraphObject}
use Rattle.parity_program.specs.declared.command.GraphObject.TheVariants.{Converted, ForestPairs, SparePairs, EdgePaths, FeedbackSet}
use Rattle.parity_program.specs.declared.command.TextCommand.TheVariants.{OverGraph}
use Rattle.parity_program.specs.declared.status.Status.TheVariants.{Limit}
use Rattle.text_forms.specs.Reading.{go_on, give, above}

unless_same : (o : Option ℕ) (x y : Input) → unless_apart o x ≡ Ok y → (x ≡ y) × (o ≡ None)
unless_same None x y e = (cc (e), refl)
unless_same (Some v) x y e = absurd (cc (e))

unless_not_cubic_same : (o : Option ℕ) (x y : Input) → unless_not_cubic o x ≡ Ok y → (x ≡ y) × (o ≡ None)
unless_not_cubic_same None x y e = (cc (e), refl)
unless_not_cubic_same (Some v) x y e = absurd (cc (e))

both_same : (o c : Option ℕ) (x y : Input) → then_check (unless_not_cubic c) (unless_apart o x) ≡ Ok y
    → (x ≡ y) × (o ≡ None) × (c ≡ None)
both_same None c x y e = let r = unless_not_cubic_same c x y e in (r.0, refl, r.1)
both_same (Some v) c x y e = absurd (cc (e))

admitted_same : (object : GraphObject) (g : NamedGraph) (x y : Input) → unless_unfit object g x ≡ Ok y → x ≡ y
admitted_same (Converted Matching) g x y e = cc (e)
admitted_same (Converted Cactus) g x y e = cc (e)
admitted_same (Converted PathFamily) g x y e = cc (e)
admitted_same (Converted Rotation) g x y e = (unless_same (first_apart (length g.names) g.ends) x y e).0
admitted_same ForestPairs g x y e = cc (e)
admitted_same SparePairs g x y e = (unless_same (first_apart (length g.names) g.ends) x y e).0
admitted_same EdgePaths g x y e = cc (e)
admitted_same FeedbackSet g x y e =
    (both_same (first_apart (length g.names) g.ends) (first_not_cubic (length g.names) g.ends) x y e).0

accepted_graph : (object : Convertible) (g : NamedGraph) (at : ℕ) (long : Bool) (read : Result (NamedGraph × List Line) TextRefusal)
    → (if long then Err (Limit Bytes (most_bytes + 1)) else accepted (go_on (λ h. give (of_graph (Convert object) h)) at read))
    ≡ Ok (of_graph (Convert object) g)
    → (rest : List Line) × (read ≡ Ok (g, rest))
accepted_graph object g at true read e = absurd (cc (e))
accepted_graph object g at false (Err t) e = absurd (cc (e))
accepted_graph object g at false (Ok x) e =
    let read : of_graph (Convert object) x.0 ≡ of_graph (Convert object) g =
    admitted_same (Converted object) x.0 (of_graph (Convert object) x.0) (of_graph (Convert object) g) e in
    let same : x.0 ≡ g = cc (read) in
    (x.1, ap (λ h. Ok (h, x.1)) same)

-- the graph of the text that `convert` accepts
pub graph_read : (object : Convertible) (bytes : List ℕ) (g : NamedGraph)
    → reading (OfText (OverGraph (Convert object))) bytes ≡ Ok (of_graph (Convert object) g)
    → (rest : List Line) × (graph_for (Converted object) (length (lines bytes)) (lines_from 1 bytes) ≡ Ok (g, rest))
unfolding reading
graph_read object bytes g e = accepted_graph object g (length (lines bytes)) (nat_lt most_bytes (length bytes)) _ e

-- what is above no limit is the graph itself
few_case : (what : Counted) (many : Bool) (count : ℕ) (h g : NamedGraph) (at : ℕ) (left rest : List Line)
    → (if many then above {T = Line} what count else give {T = Line} h) at left ≡ Ok (g, rest) → (many ≡ false) × (h ≡ g)
few_case what true count h g at left rest e = absurd (cc (e))
few_case what false count h g at left rest e =
    let both : ◌≡◌ {A = NamedGraph × List Line} (h, left) (g, rest) = cc (e) in (refl, ap (λ x. x.0) both)

few_of : (h g : NamedGraph) (at : ℕ) (left rest : List Line) → with_few_triangles h at left ≡ Ok (g, rest)
    → (h ≡ g) × (triangle_count (length h.names) h.ends ≤ most_triangles)
few_of h g at left rest e =
    let count : ℕ = triangle_count (length h.names) h.ends in
    let r = few_case Triangles (nat_lt most_triangles count) count h g at left rest e in
    (r.1, ltb-false most_triangles count r.0)

pub few_triangles : (g : NamedGraph) (at : ℕ) (rest : List Line) (read : Result (NamedGraph × List Line) TextRefusal)
    → go_on with_few_triangles at read ≡ Ok (g, rest)
    → ((left : List Line) × (read ≡ Ok (g, left))) × (triangle_count (length g.names) g.ends ≤ most_triangles)
few_triangles g at rest (Err t) e = absurd (cc (e))
few_triangles g at rest (Ok x) e =
    let f = few_of x.0 g at x.1 rest e in
    ((x.1, ap (λ h. Ok (h, x.1)) f.0), subst (λ (h : NamedGraph). triangle_count (length h.names) h.ends ≤ most_triangles) f.0 f.1)

-- a graph within both limits
abbrev HasFewCycles : NamedGraph → Type 0
HasFewCycles g = (pair_count g.ends ≤ most_pairs) × (cycle_rank (length g.names) g.ends ≤ most_cycle_rank)

-- what the two checks let pass is the graph itself
both_of : (many : Bool) (h g : NamedGraph) (at : ℕ) (left rest : List Line) → many ≡ nat_lt most_pairs (pair_count h.ends)
    → (go_on with_small_rank at ((if many then above {T = Line} Pairs (pair_count h.ends) else give {T = Line} h) at left)) ≡ Ok (g, rest)
    → (h ≡ g) × HasFewCycles h
both_of true h g at left rest is e = absurd (cc (e))
both_of false h g at left rest is e =
    let rank : ℕ = cycle_rank (length h.names) h.ends in
    let r = few_case CycleRank (nat_lt most_cycle_rank rank) rank h g at left rest e in
    (r.1, (ltb-false most_pairs (pair_count h.ends) (sym is), ltb-false most_cycle_rank rank r.0))

pub few_cycles : (g : NamedGraph) (at : ℕ) (rest : List Line) (read : Result (NamedGraph × List Line) TextRefusal)
    → go_on with_few_cycles at read ≡ Ok (g, rest) → ((left : List Line) × (read ≡ Ok (g, left))) × HasFewCycles g
few_cycles g at rest (Err t) e = absurd (cc (e))
few_cycles g at rest (Ok x) e =
    let f = both_of (nat_lt most_pairs (pair_count x.0.ends)) x.0 g at x.1 rest refl e in
    ((x.1, ap (λ h. Ok (h, x.1)) f.0), subst HasFewCycles f.0 f.1)

small_rank : (g : NamedGraph) (at : ℕ) (rest : List Line) (read : Result (NamedGraph × List Line) TextRefusal)
    → go_on with_small_rank at read ≡ Ok (g, rest) → (left : List Line) × (read ≡ Ok (g, left))
small_rank g at rest (Err t) e = absurd (cc (e))
small_rank g at rest (Ok x) e =
    let rank : ℕ = cycle_rank (length x.0.names) x.0.ends in
    let r = few_case CycleRank (nat_lt most_cycle_rank rank) rank x.0 g at x.1 rest e in
    (x.1, ap (λ h. Ok (h, x.1)) r.1)

few_edges_in : (g : NamedGraph) (at : ℕ) (rest : List Line) (read : Result (NamedGraph × List Line) TextRefusal)
    → go_on with_few_edges at read ≡ Ok (g, rest) → ((left : List Line) × (read ≡ Ok (g, left))) × (length g.ends ≤ most_edges)
few_edges_in g at rest (Err t) e = absurd (cc (e))
few_edges_in g at rest (Ok x) e =
    let r = few_case Edges (nat_lt most_edges (length x.0.ends)) (length x.0.ends) x.0 g at x.1 rest e in (
      (x.1, ap (λ h. Ok (h, x.1)) r.1),
      subst (λ (h : NamedGraph). length h.ends ≤ most_edges) r.1 (ltb-false most_edges (length x.0.ends) r.0),
    )

-- behind each object's limits stands the graph of the text
pub graph_behind : (object : GraphObject) (last : ℕ) (text rest : List Line) (g : NamedGraph) → graph_for object last text ≡ Ok (g, rest)
    → (left : List Line) × (graph (most_vertices object) last text ≡ Ok (g, left))
graph_behind (Converted Matching) last text rest g e = (rest, e)
graph_behind (Converted Cactus) last text rest g e = (few_triangles g last rest (graph 128 last text) e).0
graph_behind (Converted PathFamily) last text rest g e = (rest, e)
graph_behind (Converted Rotation) last text rest g e = (few_cycles g last rest (graph 128 last text) e).0
graph_behind ForestPairs last text rest g e = (rest, e)
graph_behind SparePairs last text rest g e = small_rank g last rest (graph 128 last text) e
graph_behind EdgePaths last text rest g e = (few_edges_in g last rest (graph 128 last text) e).0
graph_behind FeedbackSet last text rest g e = (rest, e)

pub no_more_than : (object : GraphObject) → most_vertices object ≤ 128
no_more_than (Converted Matching) = omega arith
no_more_than (Converted Cactus) = omega arith
no_more_than (Converted PathFamily) = omega arith
no_more_than (Converted Rotation) = omega arith
no_more_than ForestPairs = omega arith
no_more_than SparePairs = omega arith
no_more_than EdgePaths = omega arith
no_more_than FeedbackSet = omega arith

-- what the law of graph texts says
abbrev pub Limits : Type 0
Limits = (most last : ℕ) (text rest : List Line) (g : NamedGraph) → graph most last text ≡ Ok (g, rest)
    → IsNamedGraph g × (length g.names ≤ most) × (length g.ends ≤ 512) × All (λ name. length name ≤ 32) g.names

abbrev pub ClassLimits : Type 0
ClassLimits = (most last : ℕ) (text rest : List Line) (g : NamedGraph) → graph most last text ≡ Ok (g, rest)
    → (v c : ℕ) → slice_index_or g.classes v None ≡ Some c → c < length g.names

pub few_classes : Limits → ClassLimits → (object : GraphObject) (last : ℕ) (text rest : List Line) (g : NamedGraph)
    → graph_for object last text ≡ Ok (g, rest) → HasFewClasses g
few_classes limits classes object last text rest g e v c at =
    let read = graph_behind object last text rest g e in
    let few = (limits (most_vertices object) last text read.0 g read.1).1 in
    let below = classes (most_vertices object) last text read.0 g read.1 v c at in
    omega (arith, few, below, no_more_than object)

module _ (limits : Limits) (classes : ClassLimits) (object : GraphObject) (last : ℕ) (text rest : List Line) (g : NamedGraph)
    (read : graph_for object last text ≡ Ok (g, rest)) where
  behind : (left : List Line) × (graph (most_vertices object) last text ≡ Ok (g, left))
  behind = graph_behind object last text rest g read

  pub few_vertices : length g.names ≤ 128
  few_vertices =
      let few = (limits (most_vertices object) last text behind.0 g behind.1).1 in
      omega (arith, few, no_more_than object)

  few_edges : length g.ends ≤ 512
  few_edges = (limits (most_vertices object) last text behind.0 g behind.1).2

  -- the graph has what the object wants
  pub suits : ((x : Input) → unless_unfit object g x ≡ Ok x) → Suits object g
  suits passes = by_object object refl
    where
      connected_when : first_apart (length g.names) g.ends ≡ None → IsConnectedGraph g
      connected_when none = record { connected = connects (length g.names) g.ends none; few = omega (arith, few_edges) }

      passed : (o : GraphObject) → object ≡ o → unless_unfit o g (generated 0) ≡ Ok (generated 0)
      passed o e = subst (λ p. unless_unfit p g (generated 0) ≡ Ok (generated 0)) e (passes (generated 0))

      few_here : object ≡ EdgePaths → length g.ends ≤ most_edges
      few_here e =
          (few_edges_in g last rest (graph 128 last text) (subst (λ p. graph_for p last text ≡ Ok (g, rest)) e read)).1

      by_object : (o : GraphObject) → object ≡ o → Suits o g
      by_object (Converted Matching) e = tt
      by_object (Converted Cactus) e = tt
      by_object (Converted PathFamily) e = few_classes limits classes object last text rest g read
      by_object (Converted Rotation) e =
          connected_when (unless_same _ (generated 0) (generated 0) (passed (Converted Rotation) e)).1
      by_object ForestPairs e = tt
      by_object SparePairs e = connected_when (unless_same _ (generated 0) (generated 0) (passed SparePairs e)).1
      by_object EdgePaths e = record {
        few = few_here e;
        classes = few_classes limits classes object last text rest g read;
      }
      by_object FeedbackSet e =
          let both = both_same (first_apart (length g.names) g.ends) (first_not_cubic (length g.names) g.ends) (generated 0) (generated 0)
          (passed FeedbackSet e) in
          record { connected = connected_when both.1; cubic = is_cubic (length g.names) g.ends both.2 }
