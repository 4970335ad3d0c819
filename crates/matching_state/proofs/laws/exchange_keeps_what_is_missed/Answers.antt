use Rattle.std.proofs.Common.{◌∷◌}
use Rattle.std.proofs.lemmas.List.Elements.{All-cons}
use Rattle.linear_algebra.specs.Vectors.{IsVector}
use Rattle.linear_algebra.proofs.Coordinates.{space}
use Rattle.matching_state.proofs.StepSets.{swap_of}
use Rattle.matching_state.proofs.Ties.{in_line_vector, misses_to, misses_from, exposed_of, coordinates_vector, component_in_support}
use Rattle.parity_lines.proofs.Border.{tuples_at}
use Rattle.parity_theory.proofs.Exchanges.{exchange_at}
use Rattle.matching_state.proofs.laws.exchange_keeps_what_is_missed.Goals as goal

pub returns : goal.returns
returns c S p M N m e tip cs outer keep F P i h t o k l w v j = misses_from S F p P N keep l.within v
    (exchange_at (space S F p.dimension) (tuples_at S F p) M N m e _ _ _ _ (exposed_of S F p P M e tip cs outer i h t o)
    (component_in_support S F p P M cs m (coordinates_vector S F p P M cs tip t.combines) k)
    (misses_to S F p P M (outer ∷ keep) i.line_set.within (All-cons (IsVector S p.dimension) outer keep (in_line_vector S F p P e outer h o.in_line) v) j)
    (swap_of M N m e i.line_set.increasing l.increasing w))
