use Rattle.std.proofs.Common.{◌≤◌, ◌++◌, ap, sym, ◌∙◌, arith}
use Rattle.std.proofs.lemmas.Bool.{true≢false}
use Rattle.std.proofs.lemmas.List.{append-nil}
use Rattle.edge_lists.specs.Occurrences.{count}
use Rattle.edge_lists.proofs.Occurrences.{without-one_in, without-one_out}
use Rattle.genus_front.proofs.lists.push_outside.Goals as goal

pub returns-in_ok-push : goal.returns-in_ok-push
returns-in_ok-push c =
    let n : ¬ (1 ≤ count c.args.edge c.args.others.now) = λ i. true≢false (sym (c.holds.ensures.1 i) ∙ c.if-not-holds.true) in
    c.in_ok-push.ensures.ok ∙ ap (λ t. c.args.list.now ++ t) (sym (without-one_out c.args.others.now c.args.edge (omega arith)))

pub returns-else-not-holds : goal.returns-else-not-holds
returns-else-not-holds c =
    let i = c.holds.ensures.0 c.if-not-holds.false in
    sym (append-nil c.args.list.now) ∙ ap (λ t. c.args.list.now ++ t)
    (sym (without-one_in c.args.others.now c.args.edge (λ z. omega (arith, z, i))))
