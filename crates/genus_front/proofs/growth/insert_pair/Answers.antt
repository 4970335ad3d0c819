use Rattle.std.proofs.Common.{◌+◌, arith}
use Rattle.genus_front.proofs.GrownRotations.{a_pair}
use Rattle.genus_front.proofs.growth.insert_pair.Goals as goal

pub returns : goal.returns
returns c = λ g h. a_pair c.args.rotation.now c.insert_pair.new.self c.vertices-vertices.ensures.system c.args.pair.0 c.args.pair.1
    (let a = c.requires.pair.0 in let b = c.requires.pair.1 in omega arith)
    c.in_ok-insert_pair.ensures.held c.in_ok-insert_pair.ensures.faces (g + 1) (c.in_ok-insert_pair.ensures.genus g h)
