use Rattle.parity_program.proofs.Written.{is_done}
use Rattle.parity_program.proofs.genus.genus.Goals as goal

pub from_set-requires-clause-set : goal.from_set-requires-clause-set
from_set-requires-clause-set c = record {
  problem = c.in_ok-problem.problem;
  is_problem = c.in_ok-problem.ensures.problem;
  so = c.in_ok-answer.ensures.good.independent_set;
}

pub returns : goal.returns
returns c =
    let found = c.in_ok-rotation.ensures in
    let has = rw (found.vertices, found.held, found.ends) at c.in_ok-genus.ensures in (
      c.in_ok-rotation.rotation.lists,
      c.in_ok-genus.genus,
      c.in_ok-faces.faces,
      record {
        rotation = found.rotation;
        least = c.vertices-vertices.ensures.system.least;
        has_genus = has;
        has_faces = c.in_ok-faces.ensures;
        maximum = found.largest
            (record {
              problem = c.in_ok-problem.problem;
              is_problem = c.in_ok-problem.ensures.problem;
              so = c.in_ok-answer.ensures.largest;
            })
            c.in_ok-genus.genus has;
      },
      is_done _ _ _ _ c.done.ensures c.new-text.ensures.items c.in_ok-write_rotation.ensures,
    )
