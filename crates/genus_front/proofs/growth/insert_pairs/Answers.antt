use Rattle.std.proofs.Common.{◌≡◌, ◌+◌, [], ◌∷◌, length, take, get_or, sym, subst, ap, ◌∙◌, ◌<◌, arith}
use Rattle.graph_core.specs.Adjacency.{IsAdjacentPair}
use Rattle.edge_lists.specs.Occurrences.{count}
use Rattle.rotation_system.specs.RotationSystems.{held}
use Rattle.genus_front.specs.GenusProblems.{edges_of}
use Rattle.genus_front.proofs.EdgeLists.{count-edges_take, first_counted, fresh_pair, second_counted}
use Rattle.genus_front.proofs.GrownRotations.{more_pairs, no_pairs}
use Rattle.genus_front.proofs.ListedPairs.{pair_is}
use Rattle.genus_front.proofs.growth.insert_pairs.Goals as goal

pub loop-i-init : goal.loop-i-init
loop-i-init c = no_pairs c.args.rotation.now c.requires.faces c.requires.genus

within : (c : goal.After-at-in-loop-i) → c.loop-i.i < length c.args.set.now
within c = omega (arith, c.loop-i-test.true, c.len-i-end.ensures.value)

the_pair : (c : goal.After-at-in-loop-i) → c.at-in-loop-i.result ≡ get_or c.args.pairs.now (get_or c.args.set.now c.loop-i.i 0) (0, 0)
the_pair c = c.at-in-loop-i.ensures ∙ ap (λ k. get_or c.args.pairs.now k (0, 0)) c.at.ensures

pub insert_pair-requires-clause-pair : goal.insert_pair-requires-clause-pair
insert_pair-requires-clause-pair c =
    let P = c.args.pairs.now in
    let k = get_or c.args.set.now c.loop-i.i 0 in
    subst (λ E. IsAdjacentPair E c.at-in-loop-i.result) (sym c.loop-i.invariant.more.ends)
    (subst (IsAdjacentPair c.args.rotation.now.ends) (sym (the_pair c)) (pair_is c.args.rotation.now.ends P c.requires.pairs k
    (c.requires.within c.loop-i.i 0 (within c))))

pub insert_pair-requires-clause-first_new : goal.insert_pair-requires-clause-first_new
insert_pair-requires-clause-first_new c =
    let p = c.at-in-loop-i.result in
    c.loop-i.invariant.more.more p.0
    ∙ fresh_pair p.0 c.loop-i.i (count p.0 (held c.args.rotation.now)) c.args.pairs.now c.args.set.now p (within c) (the_pair c)
    (first_counted p.0 p.1) (c.requires.new p.0)

pub insert_pair-requires-clause-second_new : goal.insert_pair-requires-clause-second_new
insert_pair-requires-clause-second_new c =
    let p = c.at-in-loop-i.result in
    c.loop-i.invariant.more.more p.1
    ∙ fresh_pair p.1 c.loop-i.i (count p.1 (held c.args.rotation.now)) c.args.pairs.now c.args.set.now p (within c) (the_pair c)
    (second_counted p.0 p.1) (c.requires.new p.1)

pub loop-i-preserved : goal.loop-i-preserved
loop-i-preserved c =
    let P = c.args.pairs.now in
    let M = c.args.set.now in
    let p = c.at-in-loop-i.result in
    let lt : c.loop-i.i < length M = omega (arith, c.loop-i-test.true, c.len-i-end.ensures.value) in
    more_pairs c.args.rotation.now c.loop-i.rotation c.insert_pair.new.rotation (edges_of P (take c.loop-i.i M)) (p.0 ∷ p.1 ∷ [])
    (edges_of P (take (c.loop-i.i + 1) M)) c.loop-i.i (c.loop-i.i + 1) c.loop-i.invariant
    (c.in_ok-insert_pair.ensures c.loop-i.i c.loop-i.invariant.genus)
    (λ e. count-edges_take e c.loop-i.i P M p lt (c.at-in-loop-i.ensures ∙ ap (λ k. get_or P k (0, 0)) c.at.ensures))
