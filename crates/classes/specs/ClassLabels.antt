-- The labels of akin lines, and three lines that show that there are no classes.
use Rattle.std.specs.Prelude.{◌≡◌, ℕ, ◌<◌, List, Bool, true, false, length, slice_index}
use Rattle.class_theory.proofs.Labels.{AreExact, ExactAt, label}
use Rattle.classes.specs.declared.labels.Labelling.{Labelling}
use Rattle.classes.specs.declared.labels.Labelling.TheVariants.{Exact, Violated}
use Rattle.classes.specs.declared.labels.Triple.{Triple}

-- the labels of the lines below n, in order
pub record AreLabels (n : ℕ) (akin : ℕ → ℕ → Bool) (labels : List ℕ) : Type 0 where
  pub long : length labels ≡ n
  pub each : (i : ℕ) → i < n → slice_index labels i ≡ label akin i

-- the labels of i are exact with those of all lines below n
abbrev pub AreExactFor : ℕ → (ℕ → ℕ → Bool) → ℕ → Type 0
AreExactFor n akin i = (j : ℕ) → j < n → ExactAt akin i j

-- the first and the last line are akin to the middle one, and not to each other
pub record IsTriple (n : ℕ) (akin : ℕ → ℕ → Bool) (t : Triple) : Type 0 where
  pub first_in : t.first < n
  pub middle_in : t.middle < n
  pub last_in : t.last < n
  pub first_middle : akin t.first t.middle ≡ true
  pub middle_last : akin t.middle t.last ≡ true
  pub first_last : akin t.first t.last ≡ false

-- labels that are exact, or such lines
abbrev pub TellsLabels : ℕ → (ℕ → ℕ → Bool) → Labelling → Type 0
TellsLabels n akin (Exact labels) = AreLabels n akin labels.items × AreExact n akin
TellsLabels n akin (Violated t) = IsTriple n akin t
