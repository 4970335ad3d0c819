-- What is seen of all lines of a problem over an independent set.
use Rattle.std.specs.Prelude.{◌≡◌, ◌≢◌, ℕ, ◌<◌, ◌↔◌, List, [], ◌∷◌, length, All}
use Rattle.std.specs.List.{Contains, AllPairs}
use Rattle.linear_algebra.specs.Scalars.{Scalars}
use Rattle.matching_state.specs.LinePlaces.{IsExposed, rank_beside}
use Rattle.matching_state.specs.Missing.{Misses}
use Rattle.matching_state.specs.Sights.{IsSeen, outer_of}
use Rattle.matching_state.specs.declared.sights.Exposed.{Exposed}
use Rattle.matching_state.specs.declared.step.Entry.{Entry}
use Rattle.matching_state.specs.declared.step.Survey.{Survey}
use Rattle.matching_state.specs.declared.step.Survey.TheVariants as survey
use Rattle.parity_lines.specs.Problems.{ParityProblem}

-- the outers of both lines are independent modulo the span of M
abbrev pub AreApart : {X : Type 0} → Scalars → ParityProblem → List ℕ → Exposed X → Exposed X → Type 0
AreApart S p M x y = Misses S p M (outer_of p x.line x.second ∷ outer_of p y.line y.second ∷ [])

-- xs are the exposed lines below n, in order, and none of the lines below n is free
pub record AreExposed {X : Type 0} (S : Scalars) (number : X → ℕ) (p : ParityProblem) (M : List ℕ) (n : ℕ) (xs : List (Entry X)) : Type 0 where
  pub seen : All (λ x. IsSeen S number p M x.exposed) xs
  pub below : All (λ x. x.exposed.line < n) xs
  pub increasing : AllPairs (λ x y. x.exposed.line < y.exposed.line) xs
  pub not_free : (e : ℕ) → e < n → rank_beside S p M e ≢ 2
  pub all : (e : ℕ) → e < n → IsExposed S p M e → (x : Entry X) × Contains xs x × (x.exposed.line ≡ e)

-- lines have different numbers exactly where their outers are apart
abbrev pub AreNumbered : {X : Type 0} → Scalars → ParityProblem → List ℕ → List (Entry X) → Type 0
AreNumbered {X} S p M xs = (x y : Entry X) → Contains xs x → Contains xs y → (x.class ≢ y.class) ↔ AreApart S p M x.exposed y.exposed

-- one line that is free, or all that are exposed, with a number each, where none is free
abbrev pub TellsSurvey : {X : Type 0} → Scalars → (X → ℕ) → ParityProblem → List ℕ → Survey X → Type 0
TellsSurvey S number p M (survey.Free e) = (e < length p.lines) × (rank_beside S p M e ≡ 2)
TellsSurvey S number p M (survey.Exposed xs) = AreExposed S number p M (length p.lines) xs.items × AreNumbered S p M xs.items
