-- The place of a line, from what is seen of it.
use Rattle.std.proofs.Common.{◌≡◌, ℕ, List, ap, sym, ◌∙◌, subst}
use Rattle.std.specs.Prelude.{◌↔◌}
use Rattle.std.specs.List.{Contains}
use Rattle.std.specs.List.Sorted.{IsStrictlyIncreasing}
use Rattle.linear_algebra.specs.Scalars.{Scalars, IsField}
use Rattle.matching_state.specs.LinePlaces.{IsOuter, IsPlace, IsTip}
use Rattle.matching_state.specs.Overlaps.{InSupport}
use Rattle.matching_state.specs.Sights.{IsSight, outer_of}
use Rattle.matching_state.specs.declared.place.Place.TheVariants as place
use Rattle.matching_state.specs.declared.sights.Exposed.{Exposed}
use Rattle.matching_state.specs.declared.sights.Sight.TheVariants as sight
use Rattle.matching_state.proofs.SightLaws.{component_by}
use Rattle.parity_lines.specs.LineSets.{IsIndependentSet}
use Rattle.parity_lines.specs.Problems.{ParityProblem, IsProblem}

module _ (S : Scalars) (p : ParityProblem) (M : List ℕ) {X : Type 0} (number : X → ℕ) (e : ℕ) (x : Exposed X) where
  pub single_place : IsSight S number p M e (sight.Single x) → (outer : List ℕ) → outer ≡ outer_of p x.line x.second → IsPlace {X = X} S p M e (place.Single outer)
  single_place s outer q = (s.1, s.2, subst (IsOuter S p M e) (sym (q ∙ ap (λ l. outer_of p l x.second) s.0)) s.3)

  pub exposed_place : IsField S → IsProblem S p → IsIndependentSet S p M → IsSight S number p M e (sight.Exposed x) → (outer tip cs L : List ℕ) → outer ≡ outer_of p x.line x.second →
      IsTip S p M x.line tip cs → IsStrictlyIncreasing L → ((m : ℕ) → Contains L m ↔ InSupport S p M x.line m) → IsPlace {X = X} S p M e (place.Exposed tip outer L)
  exposed_place F P i s outer tip cs L q t r c =
      let seen = s.1 in
      subst (λ l. IsPlace {X = X} S p M l (place.Exposed tip outer L)) s.0 (
        seen.exposed,
        subst (IsOuter S p M x.line) (sym q) seen.outer,
        (
          cs,
          t,
          record {
            increasing = r;
            lines = λ m. let by = component_by S F p P M i x.line seen.within seen.exposed tip cs t m in (λ k. by.0 ((c m).0 k), λ k. (c m).1 (by.1 k));
          },
        ),
      )
