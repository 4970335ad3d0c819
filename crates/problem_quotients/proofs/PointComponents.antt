-- The coordinates of the point over an independent set that spans it: a line at which they are not zero, and the set without it.
use Rattle.std.proofs.Common.{◌≡◌, ◌≢◌, ℕ, suc, ◌*◌, ◌⊎◌, inl, inr, List, [], length, get_or, ap, sym, ◌∙◌, arith}
use Rattle.std.proofs.lemmas.List.{get_or-replicate}
use Rattle.linear_algebra.proofs.Coordinates.{space, tuple}
use Rattle.linear_algebra.proofs.Elements.{scalar_field}
use Rattle.linear_algebra.specs.Scalars.{IsField, Scalars}
use Rattle.linear_algebra.specs.Spans.{Combines}
use Rattle.linear_algebra.specs.Vectors.{IsVector, zero_vector}
use Rattle.matching_state.proofs.Ties.{combining, component_in_support, component_of_support, coordinates_vector, pairs, tuple_not_null}
use Rattle.matching_state.specs.Supports.{HasComponent}
use Rattle.parity_lines.proofs.Border.{tuples_at}
use Rattle.parity_lines.proofs.LineSets.{IsWithout}
use Rattle.parity_lines.specs.LineSets.{IsIndependentSet}
use Rattle.parity_lines.specs.Problems.{IsProblem, ParityProblem, vectors_at}
use Rattle.parity_theory.proofs.Lines.{line_combination}
use Rattle.parity_theory.proofs.Supports.{InSupport, SupportIn, gathered, support_in_or_not}
use Rattle.problem_quotients.proofs.SmallerSets.{set_without}
use Rattle.problem_quotients.specs.ProblemsModulo.{IsProblemModulo}
use Rattle.vector_spaces.proofs.Members.{In, decide_in}

module _ (S : Scalars) (F : IsField S) (point : List ℕ) (i : ℕ) (p q : ParityProblem) (P : IsProblem S p)
    (g : IsProblemModulo S point i p q) (M cs : List ℕ) (a : IsIndependentSet S p M) (c : Combines S p.dimension (vectors_at p M) cs point) where
  coordinates_in : IsVector S (2 * length M) cs
  coordinates_in = coordinates_vector S F p P M cs point c

  point_combined : line_combination (space S F p.dimension) (tuples_at S F p) (pairs S F cs) M ≡ tuple S F p.dimension point
  point_combined = combining S F p P M cs a.line_set.within coordinates_in ∙ ap (tuple S F p.dimension) c.gives

  not_zero : point ≢ zero_vector S p.dimension
  not_zero e =
      let n = g.is_vector.length_is in
      let k = g.pivot.in_range in
      g.pivot.not_zero (ap (λ v. get_or v i S.zero) e ∙ get_or-replicate p.dimension i S.zero S.zero (omega arith))

  -- the point has a component at some line
  pub some_component : (m : ℕ) × HasComponent S M cs m
  some_component = go (support_in_or_not (scalar_field S F) (λ m. In m []) (λ m. decide_in m []) (pairs S F cs) M)
    where
      go : SupportIn (scalar_field S F) (λ m. In m []) (pairs S F cs) M ⊎ ((m : ℕ) × InSupport (scalar_field S F) m (pairs S F cs) M × ¬ (In m [])) →
          (m : ℕ) × HasComponent S M cs m
      go (inl k) = absurd (tuple_not_null S F p P point g.is_vector not_zero
          (sym point_combined ∙ gathered (space S F p.dimension) (tuples_at S F p) [] (pairs S F cs) M k))
      go (inr r) = (r.0, component_of_support S F p P M cs r.0 coordinates_in r.1)

  -- without a line at which it has one, the set is independent modulo the point
  pub set_without_component : (N : List ℕ) (m : ℕ) → HasComponent S M cs m → IsWithout M m N → IsIndependentSet S q N × (suc (length N) ≡ length M)
  set_without_component N m k w = set_without S F point i p q P g M N m (pairs S F cs) a point_combined
      (component_in_support S F p P M cs m coordinates_in k) w
