-- An element of a list.
use Rattle.std.proofs.Common.{◌≡◌, ℕ, List, get_or, sym, ap, ◌∙◌}

-- the element at an index, of a list that is the same
pub at_same : (xs ys : List ℕ) (i m : ℕ) → xs ≡ ys → m ≡ get_or xs i 0 → get_or ys i 0 ≡ m
at_same xs ys i m e k = ap (λ t. get_or t i 0) (sym e) ∙ sym k
