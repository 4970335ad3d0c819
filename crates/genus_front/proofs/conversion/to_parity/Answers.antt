use Rattle.std.proofs.Common.{◌<◌, ℕ, length, refl, arith}
use Rattle.std.proofs.lemmas.Result.{IfOk-weaker}
use Rattle.vector_spaces.proofs.Members.{all-In}
use Rattle.small_fields.specs.Laws.ModularField.{modular_field}
use Rattle.small_fields.specs.Laws.Primes.{prime_2}
use Rattle.small_fields.specs.ScalarsOf.{scalars_of}
use Rattle.genus_front.proofs.IndependentSets.{sets_are_spare}
use Rattle.genus_front.proofs.conversion.to_parity.Goals as goal

pub problem_of-requires : goal.problem_of-requires
problem_of-requires c = all-In (λ (p : ℕ × ℕ). (p.0 < length c.in_ok-rows.rows.rows) × (p.1 < length c.in_ok-rows.rows.rows))
    c.in_ok-pairs.pairs
    (λ p i. let a = c.in_ok-pairs.ensures.each p i in let n = c.in_ok-rows.ensures.rows.count in
    (let k = a.0 in let l = a.1 in omega arith, let l = a.1 in omega arith))

pub returns-clause-independent : goal.returns-clause-independent
returns-clause-independent c = IfOk-weaker c.problem_of.result _ _ (λ p q P M A L.
    sets_are_spare (scalars_of 2) (modular_field 2 prime_2) refl
    c.args.graph.now.ends (length c.args.graph.now.names) c.edges-edges.ensures.graph.within c.requires p P M
    (record {
      matrix = c.in_ok-rows.rows;
      rows = c.in_ok-rows.ensures.rows;
      pairs = c.in_ok-pairs.pairs;
      adjacent = c.in_ok-pairs.ensures;
      problem = q;
    }) A L) c.problem_of.ensures
