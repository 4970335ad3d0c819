use Rattle.std.proofs.Common.{◌+◌, [], ◌∷◌, length, take, sym, ap, ◌∙◌, ◌<◌, arith}
use Rattle.edge_lists.specs.Occurrences.{count}
use Rattle.rotation_system.specs.RotationSystems.{held}
use Rattle.genus_front.proofs.EdgeLists.{count-take, fresh}
use Rattle.genus_front.proofs.GrownRotations.{more_edges, no_edges}
use Rattle.genus_front.proofs.growth.insert_edges.Goals as goal

pub loop-i-init : goal.loop-i-init
loop-i-init c = no_edges c.args.rotation.now

pub insert_edge-requires-clause-new : goal.insert_edge-requires-clause-new
insert_edge-requires-clause-new c = c.loop-i.invariant.more.more c.at.result
    ∙ fresh c.at.result c.loop-i.i (count c.at.result (held c.args.rotation.now)) c.args.edges.now
    (omega (arith, c.loop-i-test.true, c.len-i-end.ensures)) c.at.ensures (c.requires.new c.at.result)

pub loop-i-preserved : goal.loop-i-preserved
loop-i-preserved c =
    let K = c.args.edges.now in
    let l : c.loop-i.i < length K = omega (arith, c.loop-i-test.true, c.len-i-end.ensures) in
    more_edges c.args.rotation.now c.loop-i.rotation c.insert_edge.new.rotation (take c.loop-i.i K) (c.at.result ∷ [])
    (take (c.loop-i.i + 1) K)
    c.loop-i.invariant c.in_ok-insert_edge.ensures
    (λ e. count-take e c.loop-i.i K l ∙ ap (λ t. count e (take c.loop-i.i K) + count e (t ∷ [])) (sym c.at.ensures))
