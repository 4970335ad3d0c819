use Rattle.std.proofs.Common.{◌∙◌, subst, sym, ◌≤◌}
use Rattle.parity_program.proofs.CountedPairs.{counted, few}
use Rattle.parity_program.proofs.cycles.pairs_of.Goals as goal

pub returns-clause-value : goal.returns-clause-value
returns-clause-value c = c.len.ensures ∙ counted c.args.graph.now.ends c.in_ok-pairs.pairs c.in_ok-pairs.ensures

pub returns-clause-small : goal.returns-clause-small
returns-clause-small c = subst (λ k. k ≤ 262144) (sym (returns-clause-value c)) (few c.args.graph.now.ends c.requires)
