use Rattle.cubic_front.proofs.SetsAndVertices.{add_up, set_of_vertices, vertices_of_set}
use Rattle.cubic_front.proofs.laws.least_sets_and_largest_sets_add_up.Goals as goal

pub returns-clause-vertices : goal.returns-clause-vertices
returns-clause-vertices c = λ S E n p M F two one B C K G h. vertices_of_set S F two E n one B C K p G M h

pub returns-clause-lines : goal.returns-clause-lines
returns-clause-lines c = λ S E n p X F two one B C K G f. set_of_vertices S F two E n one B C K p G X f

pub returns-clause-least : goal.returns-clause-least
returns-clause-least c = λ S E n p M X F two one B C K G L f. add_up S F two E n one B C K p G M X L f
