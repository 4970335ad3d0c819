use Rattle.search.proofs.Walked.{starts_ready}
use Rattle.search.proofs.walker.Walker.new.Goals as goal

pub returns-clause-ready : goal.returns-clause-ready
returns-clause-ready g c =
    starts_ready g.F.Field.scalars _ c.problem-problem.result.now c.len.result c.as_slice.result.now c.problem-problem.ensures c.len.ensures.value
    c.as_slice.ensures.value c.in_ok-notes.ensures c.in_ok-firsts.ensures c.in_ok-order.ensures
