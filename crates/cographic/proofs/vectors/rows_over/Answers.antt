use Rattle.std.proofs.Common.{◌≡◌, All, Bool, List, length, sym, subst}
use Rattle.std.proofs.lemmas.Result.{IfOk-weaker}
use Rattle.graph_theory.specs.Walks.{edge_at}
use Rattle.edge_lists.specs.EdgeNumbers.{edge_numbers}
use Rattle.edge_lists.specs.Occurrences.{without}
use Rattle.cographic.specs.CographicRows.{AreCographicRows}
use Rattle.cographic.specs.Cycles.{AreRowsBy}
use Rattle.cographic.proofs.MarkLists.{cycles_wide, rows_are}
use Rattle.cographic.proofs.vectors.rows_over.Goals as goal

pub rows_by-requires : goal.rows_by-requires
rows_by-requires g c = subst (λ n. All (λ (cycle : List Bool). length cycle ≡ n) c.in_ok-cycles.cycles) (sym c.edges.ensures.value)
    (cycles_wide (edge_at c.args.graph.now.ends) (length c.args.graph.now.ends) c.in_ok-tree.tree
    (without c.in_ok-tree.tree (edge_numbers c.args.graph.now.ends)) c.in_ok-cycles.cycles c.in_ok-cycles.ensures)

pub returns : goal.returns
returns g c = IfOk-weaker c.rows_by.result (AreRowsBy g.F.Field.scalars c.in_ok-cycles.cycles c.edges.result)
    (AreCographicRows g.F.Field.scalars c.args.graph.now.ends)
    (λ m r. rows_are g.F.Field.scalars c.args.graph.now.ends c.in_ok-tree.tree c.in_ok-cycles.cycles c.edges.result m c.in_ok-tree.ensures.greedy
    c.in_ok-tree.ensures.forest c.in_ok-tree.ensures.spanning c.in_ok-cycles.ensures c.edges.ensures.value r) c.rows_by.ensures
