use Rattle.edge_paths_front.proofs.SecondGraphLaw.{back, forth, sizes}
use Rattle.edge_paths_front.proofs.laws.both_graphs_have_the_same_largest_number.Goals as goal

pub returns-clause-back : goal.returns-clause-back
returns-clause-back c = back

pub returns-clause-forth : goal.returns-clause-forth
returns-clause-forth c = forth

pub returns-clause-largest : goal.returns-clause-largest
returns-clause-largest c = sizes
