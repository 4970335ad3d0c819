use Rattle.std.proofs.Common.{◌≡◌, ◌++◌, [], ◌∷◌, get_or, take, ap, ap₂, sym, ◌∙◌, arith}
use Rattle.edge_lists.proofs.EdgePairs.{flat-nil}
use Rattle.genus_front.specs.GenusProblems.{edges_of}
use Rattle.genus_front.proofs.EdgeLists.{edges-take, pushed_twice}
use Rattle.genus_front.proofs.lists.edges_of.Goals as goal

pub loop-i-init : goal.loop-i-init
loop-i-init c = c.new-list.ensures ∙ sym flat-nil

pub loop-i-preserved : goal.loop-i-preserved
loop-i-preserved c =
    let P = c.args.pairs.now in
    let M = c.args.set.now in
    let same : c.at-first.result ≡ get_or P (get_or M c.loop-i.i 0) (0, 0) =
    c.at-first.ensures ∙ ap (λ k. get_or P k (0, 0)) c.at.ensures in
    pushed_twice c.loop-i.list c.push.new.self c.push-in-loop-i.new.self (edges_of P (take c.loop-i.i M)) _ _
    c.loop-i.invariant c.in_ok-push.ensures.ok c.in_ok-push-2.ensures.ok
    ∙ ap₂ (λ a b. edges_of P (take c.loop-i.i M) ++ (a ∷ b ∷ [])) (ap (λ p. p.0) same) (ap (λ p. p.1) same)
    ∙ sym (edges-take P M c.loop-i.i (omega (arith, c.loop-i-test.true, c.len-i-end.ensures.value)))
