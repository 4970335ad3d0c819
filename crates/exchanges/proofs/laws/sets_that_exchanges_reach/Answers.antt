use Rattle.std.proofs.Common.{arith}
use Rattle.vector_spaces.proofs.Members.{contains-In, In-contains}
use Rattle.exchanges.proofs.Distances.{left_over-distance, left_over_fewer}
use Rattle.exchanges.proofs.LinesReached.{lines_reached, lines_stay}
use Rattle.exchanges.proofs.ReachedSets.{kept_by_exchanges}
use Rattle.exchanges.proofs.laws.sets_that_exchanges_reach.Goals as goal

pub returns-clause-kept : goal.returns-clause-kept
returns-clause-kept c = λ S p keep T M N F P i t k m r. kept_by_exchanges S F p P keep T t.within k M N i m r

pub returns-clause-lines : goal.returns-clause-lines
returns-clause-lines c = λ S p keep T M N l r. lines_reached S p keep T M l N r

pub returns-clause-stays : goal.returns-clause-stays
returns-clause-stays c = λ S p keep T M N l r. lines_stay S p keep T M l N r

pub returns-clause-nearer : goal.returns-clause-nearer
returns-clause-nearer c = λ S p keep T M N r.
    let a = left_over-distance M T in
    let b = left_over-distance N T in
    let h = left_over_fewer M N T (λ t i j. In-contains N t (lines_stay S p keep T M t N r (contains-In M t j) (contains-In T t i))) in
    omega arith
