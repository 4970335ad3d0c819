-- What holds of each member that a loop over a list has passed.
use Rattle.std.proofs.Common.{◌≡◌, ℕ, ◌+◌, ◌<◌, ◌≤◌, List, All, length, take, get_or, sym, subst}
use Rattle.std.proofs.lemmas.List.{take_more, take_all}
use Rattle.std.proofs.lemmas.List.Elements.{All-push}

module _ {X : Type 0} (P : X → Type 0) (xs : List X) where
  pub one_more : (i : ℕ) (x : X) → i < length xs → x ≡ get_or xs i x → All P (take i xs) → P x → All P (take (i + 1) xs)
  one_more i x h e a p = subst (All P) (sym (take_more xs i x h)) (All-push P (take i xs) (get_or xs i x) a (subst P e p))

  pub all_of_them : (i : ℕ) → length xs ≤ i → All P (take i xs) → All P xs
  all_of_them i h a = subst (All P) (take_all i xs h) a
