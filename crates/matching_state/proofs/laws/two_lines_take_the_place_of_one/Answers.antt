use Rattle.std.proofs.Common.{[], ◌∷◌, sym, subst}
use Rattle.std.proofs.lemmas.List.Elements.{All-nil, All-cons}
use Rattle.linear_algebra.specs.Vectors.{IsVector, AreVectors}
use Rattle.matching_state.specs.DirectSteps.{IsTwoLineStep}
use Rattle.matching_state.proofs.OneStep.{two_lines_in, two_lines_only}
use Rattle.matching_state.proofs.Ties.{in_line_vector, misses_to, misses_from}
use Rattle.matching_state.proofs.laws.two_lines_take_the_place_of_one.Goals as goal

pub returns : goal.returns
returns c S p M N k m e h tip cs outer tip' cs' outer' F P i in_e in_h t o t' o' in_k at l w =
    let step : IsTwoLineStep M _ e h N = subst (λ n. IsTwoLineStep M n e h N) (sym at) w in
    let within = i.line_set.within in
    let outers : AreVectors S p.dimension (outer ∷ outer' ∷ []) = All-cons (IsVector S p.dimension) outer (outer' ∷ []) (in_line_vector S F p P e outer in_e o.in_line) (All-cons (IsVector S p.dimension) outer' [] (in_line_vector S F p P h outer' in_h o'.in_line) (All-nil (IsVector S p.dimension))) in (
      λ j. let r = two_lines_only S F p P M i e h in_e in_h tip cs outer tip' cs' outer' t o t' o' k in_k N step j in (misses_from S F p P M (outer ∷ outer' ∷ []) within outers r.0, r.1),
      λ r. (two_lines_in S F p P M i e h in_e in_h tip cs outer tip' cs' outer' t o t' o' k in_k N step l.increasing (misses_to S F p P M (outer ∷ outer' ∷ []) within outers r.0) r.1).0,
    )
