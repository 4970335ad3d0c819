-- What an insertion answers.
use Rattle.std.specs.Prelude.{◌≡◌, ℕ, List, [], ◌∷◌, ◌++◌}
use Rattle.linear_algebra.specs.Scalars.{Scalars}
use Rattle.linear_algebra.specs.Spans.{InSpan, Combines}
use Rattle.field_core.specs.Matrix.{Matrix}
use Rattle.echelon.specs.declared.basis.Inserted.{Inserted}
use Rattle.echelon.specs.declared.basis.Inserted.TheVariants.{New, Old}

-- a new vector is outside the span and stands last; an old one is combined by the answer, and the list stays
abbrev pub Inserts : {X : Type 0} → Scalars → Matrix → List ℕ → Matrix → Inserted X → Type 0
Inserts S before v after New = ¬ (InSpan S before.width before.rows v) × (after ≡ record before { rows = before.rows ++ v ∷ [] })
Inserts S before v after (Old cs) = Combines S before.width before.rows cs v × (after ≡ before)
