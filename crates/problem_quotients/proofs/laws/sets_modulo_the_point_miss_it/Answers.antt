use Rattle.std.proofs.Common.{◌∷◌, []}
use Rattle.std.proofs.lemmas.List.Elements.{All-cons, All-nil}
use Rattle.linear_algebra.specs.Vectors.{IsVector}
use Rattle.matching_state.proofs.Ties.{misses_from, misses_to}
use Rattle.problem_quotients.proofs.MissingSets.{independent_of_misses, misses_of_independent}
use Rattle.problem_quotients.proofs.SetsModulo.{independent_above, independent_below, independent_with_point, set_above}
use Rattle.problem_quotients.proofs.laws.sets_modulo_the_point_miss_it.Goals as goal

pub returns-clause-misses : goal.returns-clause-misses
returns-clause-misses c = λ S point i p q N F P g.
    let v = All-cons (IsVector S p.dimension) point [] g.is_vector (All-nil (IsVector S p.dimension)) in (
      λ j.
          let a = set_above S F point i p q P g N j.line_set in (
            a,
            misses_from S F p P N (point ∷ []) a.within v
                (misses_of_independent S F p P point g.is_vector N a.within (independent_with_point S F point i p q P g N j)),
          ),
      λ r. independent_below S F point i p q P g N r.0
          (independent_of_misses S F p P point g.is_vector N r.0.within (misses_to S F p P N (point ∷ []) r.0.within v r.1)),
    )

pub returns-clause-independent : goal.returns-clause-independent
returns-clause-independent c = λ S point i p q N F P g j. independent_above S F point i p q P g N j
