-- Parts of the first lines of a problem.
use Rattle.std.specs.Prelude.{ℕ, ◌<◌, List, All}

-- each line of each part is below n
abbrev pub ArePartsBelow : ℕ → List (List ℕ) → Type 0
ArePartsBelow n parts = All (λ part. All (λ m. m < n) part) parts
