-- Parts of the first lines of a problem, with one more.
use Rattle.std.proofs.Common.{◌≡◌, ℕ, ◌<◌, ◌⊎◌, inl, inr, List, [], ◌∷◌, ◌++◌, sym, subst, All}
use Rattle.std.proofs.lemmas.List.Elements.{All-push}
use Rattle.search.specs.Below.{ArePartsBelow}

pub below_pushed : (n : ℕ) (before after : List (List ℕ)) (part : List ℕ) → (after ≡ before) ⊎ (after ≡ before ++ part ∷ []) →
    ArePartsBelow n before → All (λ m. m < n) part → ArePartsBelow n after
below_pushed n before after part (inl e) h k = subst (ArePartsBelow n) (sym e) h
below_pushed n before after part (inr e) h k = subst (ArePartsBelow n) (sym e) (All-push (All (λ m. m < n)) before part h k)
