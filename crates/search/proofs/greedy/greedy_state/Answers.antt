use Rattle.search.proofs.Starts.{no_lines_independent}
use Rattle.search.proofs.greedy.greedy_state.Goals as goal

pub started-requires : goal.started-requires
started-requires g c = no_lines_independent g.F.Field.scalars c.args.problem.now c.new.result c.new.ensures
