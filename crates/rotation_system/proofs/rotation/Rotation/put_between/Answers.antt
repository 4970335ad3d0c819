use Rattle.graph_theory.specs.Walks.{edge_at}
use Rattle.rotation_theory.specs.Darts.{rev}
use Rattle.rotation_system.proofs.PairsPut.{one_again, place_at}
use Rattle.rotation_system.proofs.TwoFaces.{apart_turned}
use Rattle.rotation_system.proofs.rotation.Rotation.put_between.Goals as goal

pub put_edge-requires-clause-first_place : goal.put_edge-requires-clause-first_place
put_edge-requires-clause-first_place c = place_at c.args.self.now c.vertices-vertices.ensures.system c.args.first_after
    (rev c.args.second_after) (edge_at c.args.self.now.ends c.args.second).0 c.requires.apart c.requires.first_end

pub put_edge-requires-clause-second_place : goal.put_edge-requires-clause-second_place
put_edge-requires-clause-second_place c = place_at c.args.self.now c.vertices-vertices.ensures.system c.args.second_after
    (rev c.args.first_after) (edge_at c.args.self.now.ends c.args.second).1
    (apart_turned c.args.self.now.lists (rev c.args.first_after) (rev c.args.second_after) c.requires.apart) c.requires.second_end

pub returns-clause-faces : goal.returns-clause-faces
returns-clause-faces c = one_again c.args.self.now c.vertices-vertices.ensures.system c.args.second c.requires.second c.requires.new
    c.args.first_after c.args.second_after c.requires.apart c.put_edge.new.self.lists c.in_ok-put_edge.ensures.put
