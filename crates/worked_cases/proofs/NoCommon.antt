-- Where a basis of what is common has no rows, only zero is common.
use Rattle.std.proofs.Common.{◌≡◌, ℕ, List, [], ◌∷◌, length, refl, sym, ap₂, ◌∙◌}
use Rattle.std.proofs.lemmas.List.{nil_from_length}
use Rattle.field_core.specs.Matrix.{Matrix}
use Rattle.linear_algebra.specs.Scalars.{Scalars}
use Rattle.linear_algebra.specs.Spans.{combination}
use Rattle.linear_algebra.specs.Vectors.{zero_vector}
use Rattle.quotients.specs.Subspaces.{HasElements}
use Rattle.families.specs.Families.{IsCommon, SetFamily}
use Rattle.classes.specs.Partitions.{HasNoCommon}

nothing_combined : (S : Scalars) (d : ℕ) (cs : List ℕ) → combination S d cs [] ≡ zero_vector S d
unfolding combination
nothing_combined S d [] = refl
nothing_combined S d (c ∷ cs) = refl

pub no_common : (S : Scalars) (f : SetFamily) (W : Matrix) → W.width ≡ f.problem.dimension → HasElements S W (IsCommon S f) → length W.rows ≡ 0 →
    HasNoCommon S f
no_common S f W w h none v k i =
    let span = (h v).1 i in
    sym span.combine.gives ∙ ap₂ (λ d vs. combination S d span.coefficients vs) w (nil_from_length W.rows none)
    ∙ nothing_combined S f.problem.dimension span.coefficients
