use Rattle.std.proofs.Common.{length}
use Rattle.parity_program.proofs.FirstNotCubic.{found}
use Rattle.parity_program.proofs.cubic.first_not_cubic.Goals as goal

pub returns-clause-value : goal.returns-clause-value
returns-clause-value c =
    let g = c.args.graph.now in
    found (length g.names) g.ends c.not_cubic.result c.not_cubic.ensures.first c.not_cubic.ensures.none
