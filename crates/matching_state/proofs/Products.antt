-- What a comparison of two products of entries tells.
use Rattle.std.proofs.Common.{◌≡◌, ℕ, ◌<◌, List, length, map, get_or, Bool, true, false, not, IsTrue, refl, sym, ap, ◌∙◌}
use Rattle.std.proofs.lemmas.List.{get_or-map}

-- an entry, by its number
pub entry_read : {X : Type 0} (f : X → ℕ) (xs : List X) (i : ℕ) (x : X) → i < length xs → x ≡ get_or xs i x → get_or (map f xs) i 0 ≡ f x
entry_read f xs i x h e = get_or-map f xs i x 0 h ∙ ap f (sym e)

-- what does not differ is the same
pub same_of : (same differs : Bool) → differs ≡ not same → differs ≡ false → IsTrue same
same_of true differs e h = refl
same_of false differs e h = sym h ∙ e

module _ (product : ℕ → ℕ → ℕ) (a b c d a' b' c' d' along across : ℕ) where
  -- products of entries that were read
  pub products_same : a ≡ a' → b ≡ b' → c ≡ c' → d ≡ d' → along ≡ product a' b' → across ≡ product c' d' → along ≡ across → product a b ≡ product c d
  products_same p q r s h k e = cc
