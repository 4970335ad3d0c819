use Rattle.std.proofs.Common.{arith}
use Rattle.exchanges.proofs.Distances.{left_over-distance}
use Rattle.exchanges.proofs.ReachedSets.{kept_by_exchange, nearer_by_exchange}
use Rattle.exchanges.proofs.laws.exchanges_come_nearer.Goals as goal

pub returns-clause-kept : goal.returns-clause-kept
returns-clause-kept c = λ S p keep T M N out into F P i t k m e l. kept_by_exchange S F p P keep T t.within M N out into i e.can e.swap k m l

pub returns-clause-nearer : goal.returns-clause-nearer
returns-clause-nearer c = λ S p keep T M N out into F P i t e l.
    let a = left_over-distance M T in
    let b = left_over-distance N T in
    let h = nearer_by_exchange S F p P keep T t.within M N out into i e.can e.swap t.increasing l.increasing in
    omega arith
