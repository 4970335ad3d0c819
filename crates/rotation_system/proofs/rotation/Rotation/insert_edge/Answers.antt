use Rattle.graph_theory.specs.Walks.{edge_at}
use Rattle.rotation_theory.specs.Darts.{dart}
use Rattle.rotation_system.proofs.PutDarts.{lists_inserted}
use Rattle.rotation_system.proofs.Systems.{inserted_genus}
use Rattle.rotation_system.proofs.rotation.Rotation.insert_edge.Goals as goal

pub returns-clause-placed : goal.returns-clause-placed
returns-clause-placed c = lists_inserted c.args.self.now.lists c.put_edge.new.self.lists (edge_at c.args.self.now.ends c.args.edge)
    c.args.first_after c.args.second_after (dart c.args.edge) c.in_ok-put_edge.ensures.put

pub returns-clause-genus : goal.returns-clause-genus
returns-clause-genus c = inserted_genus c.args.self.now c.vertices-vertices.ensures.system c.args.edge c.requires.edge c.requires.new
    c.args.first_after c.args.second_after c.put_edge.new.self.lists c.in_ok-put_edge.ensures.put c.put_edge.new.self.ends
    c.in_ok-put_edge.ensures.held.ends
