-- Families that keep their first set.
use Rattle.std.proofs.Common.{◌≡◌, ◌≢◌, ℕ, ◌<◌, List, [], ◌∷◌, ◌++◌, length, refl, ap, ◌∙◌, arith}
use Rattle.std.proofs.lemmas.List.{get_or_append_left}
use Rattle.families.specs.Families.{SetFamily}
use Rattle.augment.specs.FirstSets.{KeepsFirst, first_of}

pub keeps_itself : (f : SetFamily) → KeepsFirst f f
keeps_itself f = record { problem = refl; first = refl }

pub keeps_on : (f g h : SetFamily) → KeepsFirst f g → KeepsFirst g h → KeepsFirst f h
keeps_on f g h a b = record { problem = b.problem ∙ a.problem; first = b.first ∙ a.first }

pub not_empty : {X : Type 0} (xs : List X) → xs ≢ [] → 0 < length xs
not_empty [] n = absurd (n refl)
not_empty (x ∷ xs) n = omega arith

-- sets that are put behind leave the first one
pub keeps_first : (f g : SetFamily) (added : List (List ℕ)) → f.sets ≢ [] → g ≡ record f { sets = f.sets ++ added } → KeepsFirst f g
keeps_first f g added n e = record {
  problem = ap (λ (f : SetFamily). f.problem) e;
  first = ap first_of e ∙ get_or_append_left f.sets added [] 0 (not_empty f.sets n);
}
