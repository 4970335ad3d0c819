-- Two exposed lines that can take the place of one line of the set.
use Rattle.std.specs.Prelude.{◌≡◌, ◌≢◌, ℕ, List}
use Rattle.std.specs.List.{Contains}
use Rattle.linear_algebra.specs.Scalars.{Scalars}
use Rattle.matching_state.specs.Sights.{Cross}
use Rattle.matching_state.specs.declared.step.Entry.{Entry}
use Rattle.parity_lines.specs.Problems.{ParityProblem}

-- two of the entries, of different classes, whose tips cross at the index i
pub record HasPair {X : Type 0} (S : Scalars) (number : X → ℕ) (p : ParityProblem) (M : List ℕ) (entries : List (Entry X)) (i e h : ℕ) : Type 0 where
  pub first : Entry X
  pub first_in : Contains entries first
  pub first_line : first.exposed.line ≡ e
  pub second : Entry X
  pub second_in : Contains entries second
  pub second_line : second.exposed.line ≡ h
  pub apart : first.class ≢ second.class
  pub cross : Cross S number p M first.exposed second.exposed i

-- no two are
abbrev pub HasNoPair : {X : Type 0} → Scalars → (X → ℕ) → ParityProblem → List ℕ → List (Entry X) → ℕ → Type 0
HasNoPair {X} S number p M entries i = (x y : Entry X) → Contains entries x → Contains entries y → x.class ≢ y.class → ¬ (Cross S number p M x.exposed y.exposed i)
