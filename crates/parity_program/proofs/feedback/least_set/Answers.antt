use Rattle.std.proofs.Common.{length, sym, ◌∙◌}
use Rattle.parity_program.proofs.FeedbackSets.{empty_is_least_without_vertices}
use Rattle.parity_program.proofs.feedback.least_set.Goals as goal

pub returns-then-vertices-eq0 : goal.returns-then-vertices-eq0
returns-then-vertices-eq0 c =
    let g = c.args.graph.now in
    empty_is_least_without_vertices (length g.names) g.ends c.new.result (sym c.vertices.ensures.value ∙ c.if-vertices-eq0.true)
    c.vertices.ensures.graph.within c.new.ensures

pub from_set-requires-clause-set : goal.from_set-requires-clause-set
from_set-requires-clause-set c = record {
  problem = c.in_ok-problem.problem;
  is_problem = c.in_ok-problem.ensures.problem;
  so = c.in_ok-answer.ensures.good.independent_set;
}
