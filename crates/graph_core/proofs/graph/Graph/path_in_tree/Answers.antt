use Rattle.std.proofs.Common.{map, sym, subst, ◌∙◌, refl}
use Rattle.std.proofs.lemmas.Option.{none-some}
use Rattle.graph_theory.specs.Walks.{edge_at}
use Rattle.graph_theory.specs.Paths.{IsPath}
use Rattle.graph_core.specs.Ways.{AreWays, way_at}
use Rattle.graph_core.proofs.Searches.{down, path_back, no_walk, some_of}
use Rattle.graph_theory.proofs.Walks.{walk_of_connected, grown_of_forest}
use Rattle.graph_theory.proofs.Paths.{path_connected, path_is_only}
use Rattle.graph_core.proofs.graph.Graph.path_in_tree.Goals as goal

pub returns-then-not-reaches-clause-none : goal.returns-then-not-reaches-clause-none
returns-then-not-reaches-clause-none c =
    let T = c.fill.new.self.table.items in
    let ways = subst (λ t. AreWays (edge_at c.args.self.now.ends) c.args.forest.now t T)
    (c.fill.ensures.vertex ∙ c.in_ok-ways.ensures.vertex) c.fill.ensures.ways in (
      λ _. no_walk (edge_at c.args.self.now.ends) c.args.forest.now c.args.to T ways c.fill.ensures.closed c.args.from
          (sym c.if-not-reaches.ensures),
      λ _. refl,
    )

pub path-requires-clause-down : goal.path-requires-clause-down
path-requires-clause-down c = down (edge_at c.args.self.now.ends) c.args.forest.now c.fill.new.self.to c.fill.new.self.table.items c.fill.ensures.ways

path : (c : goal.After-drop-ways-2) → IsPath (edge_at c.args.self.now.ends) c.args.forest.now c.args.from c.args.to c.in_ok-path.path
path c =
    let ends = edge_at c.args.self.now.ends in
    let T = c.fill.new.self.table.items in
    let way = some_of (way_at T c.args.from) (sym c.if-not-reaches.ensures) in
    let back = path_back ends c.args.forest.now c.fill.new.self.to T c.fill.ensures.ways c.args.from way.0 way.1 in
    subst (λ t. IsPath ends c.args.forest.now c.args.from t c.in_ok-path.path) (c.fill.ensures.vertex ∙ c.in_ok-ways.ensures.vertex)
    (subst (IsPath ends c.args.forest.now c.args.from c.fill.new.self.to) (sym (c.in_ok-path.ensures way.0 way.1)) back)

pub returns-clause-path : goal.returns-clause-path
returns-clause-path c =
    let ends = edge_at c.args.self.now.ends in
    let grown = grown_of_forest (map ends c.args.forest.now) c.requires.forest in record {
      path = path c;
      only = λ other h. path_is_only ends c.args.forest.now grown c.args.from c.args.to other c.in_ok-path.path h (path c);
    }

pub returns-clause-none : goal.returns-clause-none
returns-clause-none c =
    let ends = edge_at c.args.self.now.ends in
    let walk = walk_of_connected (map ends c.args.forest.now) c.args.from c.args.to
    (path_connected ends c.args.forest.now c.args.from c.args.to c.in_ok-path.path (path c)) in
    (λ e. absurd (none-some c.in_ok-path.path (sym e)), λ n. absurd (n walk))
