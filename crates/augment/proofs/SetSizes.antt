-- A set of lines has at most as many as the problem.
use Rattle.std.proofs.Common.{◌≡◌, ℕ, zero, suc, ◌+◌, ◌≤◌, ◌<◌, List, [], ◌∷◌, length, get_or, subst, arith, All}
use Rattle.std.proofs.lemmas.List.Elements.{All-get_or}
use Rattle.std.specs.List.Sorted.{IsStrictlyIncreasing}

at_least : (L : List ℕ) → IsStrictlyIncreasing L → (i : ℕ) → i < length L → i ≤ get_or L i 0
at_least L h zero b = omega arith
at_least L h (suc i) b =
    let next : i + 1 ≡ suc i = omega arith in
    let step : get_or L i 0 < get_or L (suc i) 0 = subst (λ k. get_or L i 0 < get_or L k 0) next (h i (omega arith)) in
    let r = at_least L h i (omega arith) in
    omega arith

-- increasing numbers below n are at most n
pub at_most : (L : List ℕ) (n : ℕ) → IsStrictlyIncreasing L → All (λ m. m < n) L → length L ≤ n
at_most [] n h a = omega arith
at_most (m ∷ L) n h a =
    let low = at_least (m ∷ L) h (length L) (omega arith) in
    let high : get_or (m ∷ L) (length L) 0 < n = All-get_or (λ l. l < n) (m ∷ L) (length L) 0 (omega arith) a in
    omega arith
