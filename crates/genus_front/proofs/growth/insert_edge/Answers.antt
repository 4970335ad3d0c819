use Rattle.genus_front.proofs.GrownRotations.{an_edge}
use Rattle.genus_front.proofs.growth.insert_edge.Goals as goal

pub returns : goal.returns
returns c = an_edge c.args.rotation.now c.insert_edge.new.self c.vertices-vertices.ensures.system c.args.edge
    c.in_ok-insert_edge.ensures.held c.in_ok-insert_edge.ensures.genus
