use Rattle.std.proofs.Common.{ap₂, ◌∙◌}
use Rattle.std.proofs.lemmas.Result.{IfOk-weaker}
use Rattle.graph_problems.specs.GraphLines.{triangle_problem}
use Rattle.cactus_front.proofs.CactusLists.{three_corners, triples_of_corners}
use Rattle.cactus_front.proofs.conversion.problem_over.Goals as goal

pub problem_of-requires : goal.problem_of-requires
problem_of-requires g c = three_corners c.in_ok-triangles.ensures.triples c.in_ok-triangles.triangles c.in_ok-triangles.ensures.corners_of

pub returns : goal.returns
returns g c = IfOk-weaker c.problem_of.result _ _ (λ p is. record {
  triples = c.in_ok-triangles.ensures.triples;
  triangles = c.in_ok-triangles.ensures.triangles;
  problem = is ∙ ap₂ (triangle_problem g.F.Field.scalars) c.vertices.ensures.value
      (triples_of_corners c.in_ok-triangles.ensures.triples c.in_ok-triangles.triangles c.in_ok-triangles.ensures.corners_of);
}) c.problem_of.ensures
