use Rattle.std.proofs.Common.{ℕ, Vec, Global}
use Rattle.matching_state.proofs.Tables.{distinct_different, number_found}
use Rattle.matching_state.proofs.outer_classes.OuterClasses.number.Goals as goal

pub invariant_of-self-2 : goal.invariant_of-self-2
invariant_of-self-2 c = distinct_different (λ (v : Vec ℕ Global). v.items) c.insert_full.new.self.keys c.in_ok-number.ensures.unique

pub returns-clause-number : goal.returns-clause-number
returns-clause-number c =
    let stored = c.in_ok-number.ensures.stored in
    number_found (λ (v : Vec ℕ Global). v.items) c.insert_full.new.self.keys stored.0 c.args.tail c.in_ok-number.number c.in_ok-number.ensures.within stored.1 stored.2

pub returns-clause-different : goal.returns-clause-different
returns-clause-different c = distinct_different (λ (v : Vec ℕ Global). v.items) c.insert_full.new.self.keys c.in_ok-number.ensures.unique
