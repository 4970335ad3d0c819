use Rattle.graph_text.proofs.TextsMean.{read-classes, read-limits}
use Rattle.graph_text.proofs.laws.graphs_are_within_limits.Goals as goal

pub returns-clause-limits : goal.returns-clause-limits
returns-clause-limits c = read-limits

pub returns-clause-classes : goal.returns-clause-classes
returns-clause-classes c = read-classes
