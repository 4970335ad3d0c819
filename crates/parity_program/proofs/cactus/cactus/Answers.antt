use Rattle.parity_program.proofs.Corners.{corners_are_vertices}
use Rattle.parity_program.proofs.Written.{is_done}
use Rattle.parity_program.proofs.cactus.cactus.Goals as goal
use Rattle.std.proofs.Common.{◌<◌, ap, ◌∙◌, subst, sym, length}
use Rattle.std.specs.Prelude.{All}
use Rattle.graph_text.specs.Spelled.{cactus_lines}
use Rattle.parity_program.specs.Replies.{lines_reply}
use Rattle.vector_spaces.proofs.Members.{all-In, In-all}

pub from_set-requires : goal.from_set-requires
from_set-requires c = record {
  problem = c.in_ok-problem.problem;
  is_problem = c.in_ok-problem.ensures;
  so = c.in_ok-answer.ensures.good.independent_set;
}

pub write_cactus-requires-clause-vertices : goal.write_cactus-requires-clause-vertices
write_cactus-requires-clause-vertices c =
    let found = c.in_ok-triangles.ensures.cactus in
    let g = c.args.graph.now in
    subst (All (All (λ v. v < length g.names))) (sym found.corners_of)
    (corners_are_vertices (length g.names) g.ends (In-all _ g.ends c.edges-edges.ensures.graph.within) found.triples found.are.triangles)

pub write_cactus-requires-clause-triples : goal.write_cactus-requires-clause-triples
write_cactus-requires-clause-triples c =
    let found = c.in_ok-triangles.ensures.cactus in
    record {
      triples = found.triples;
      corners_of = found.corners_of;
      rise = all-In _ found.triples (λ t i. (found.are.triangles t i).rises);
      ordered = found.ordered;
    }

pub returns : goal.returns
returns c =
    let found = c.in_ok-triangles.ensures.largest
    (record { problem = c.in_ok-problem.problem; is_problem = c.in_ok-problem.ensures; so = c.in_ok-answer.ensures.largest }) in (
      found.triples,
      found.are,
      found.ordered,
      is_done _ _ _ _ c.done.ensures c.new-text.ensures.items c.in_ok-write_cactus.ensures
          ∙ ap (λ lists. lines_reply (cactus_lines c.args.graph.now lists)) found.corners_of,
    )
