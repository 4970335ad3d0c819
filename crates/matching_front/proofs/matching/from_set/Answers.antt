use Rattle.std.proofs.Common.{◌∷◌, [], ◌++◌, length, ap₂, sym, ◌∙◌, subst, arith}
use Rattle.std.proofs.lemmas.List.{take_more, take_all}
use Rattle.vector_spaces.proofs.Members.{In-all}
use Rattle.graph_theory.specs.Matchings.{IsMatching, IsLargestMatching}
use Rattle.graph_theory.proofs.Shuffles.{in_range}
use Rattle.graph_problems.proofs.MatchingSets.{matching_of_set, largest_matching}
use Rattle.small_fields.specs.Laws.ModularField.{modular_field}
use Rattle.small_fields.specs.Laws.Primes.{prime_2}
use Rattle.small_fields.specs.ScalarsOf.{scalars_of}
use Rattle.matching_front.proofs.matching.from_set.Goals as goal

pub loop-i-preserved : goal.loop-i-preserved
loop-i-preserved c = c.in_ok-push.ensures.ok ∙ ap₂ (λ xs x. xs ++ x ∷ []) c.loop-i.invariant c.at.ensures ∙ sym (take_more c.args.set.now c.loop-i.i 0 (omega arith))

pub returns-clause-edges : goal.returns-clause-edges
returns-clause-edges c = c.loop-i.invariant ∙ take_all c.loop-i.i c.args.set.now (omega arith)

pub returns-clause-matching : goal.returns-clause-matching
returns-clause-matching c = subst (IsMatching c.args.graph.now.ends) (sym (returns-clause-edges c))
    (matching_of_set (scalars_of 2) (modular_field 2 prime_2) (length c.args.graph.now.names) c.args.graph.now.ends c.args.set.now c.requires)

pub returns-clause-largest : goal.returns-clause-largest
returns-clause-largest c = λ h. subst (IsLargestMatching c.args.graph.now.ends) (sym (returns-clause-edges c))
    (largest_matching (scalars_of 2) (modular_field 2 prime_2) (length c.args.graph.now.names) c.args.graph.now.ends
    (in_range (length c.args.graph.now.names) c.args.graph.now.ends (In-all _ c.args.graph.now.ends c.edges-edges.ensures.graph.within)) c.args.set.now h)
