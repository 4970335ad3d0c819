use Rattle.std.proofs.Common.{ap, arith}
use Rattle.edge_lists.specs.Occurrences.{count}
use Rattle.edge_lists.proofs.Occurrences.{count-nil}
use Rattle.worked_graphs.proofs.rotations.without_edges.Goals as goal

pub returns-clause-held : goal.returns-clause-held
returns-clause-held c = λ e. omega (arith, c.in_ok-rotation.ensures.held e, ap (count e) c.new-tree.ensures, count-nil e)
