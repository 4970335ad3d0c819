use Rattle.std.proofs.Common.{ℕ, List, Bool, ◌≡◌, length, ap, subst, sym, ◌∙◌, arith}
use Rattle.graph_core.specs.Adjacency.{AreTriangleLists}
use Rattle.graph_core.specs.Gathered.{gathered, triangles_at}
use Rattle.graph_core.proofs.TriangleLists.{triangle_lists}
use Rattle.graph_core.proofs.graph.Graph.triangles.Goals as goal

abbrev of_rows : List (List Bool) → ℕ → List (List ℕ)
of_rows rows n = gathered (triangles_at rows n) n

whole : (c : goal.After-drop-neighbours-inside-2) →
    of_rows c.in_ok-neighbours.neighbours (length c.args.self.now.names) ≡ c.loop-first.found
whole c =
    let count = c.in_ok-neighbours.ensures.count in
    let rows = c.in_ok-neighbours.neighbours in
    let end : length c.args.self.now.names ≡ c.loop-first.first = omega arith in
    ap (λ n. gathered (triangles_at rows n) (length c.args.self.now.names)) (sym count)
    ∙ ap (gathered (triangles_at rows (length rows))) end
    ∙ subst (λ rs. gathered (triangles_at rs (length rs)) c.loop-first.first ≡ c.loop-first.found) c.neighbours.view_is
    (sym c.loop-first.invariant)

pub returns : goal.returns
returns c = subst (AreTriangleLists c.args.self.now.ends) (whole c)
    (triangle_lists c.in_ok-neighbours.neighbours (length c.args.self.now.names) c.args.self.now.ends
    c.vertices-first-end.ensures.graph.within c.in_ok-neighbours.ensures.marks)
