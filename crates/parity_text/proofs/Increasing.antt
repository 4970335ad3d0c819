-- Increasing positions, which a loop puts last one by one: they are below a bound that grows.
use Rattle.std.proofs.Common.{◌≡◌, ℕ, ◌+◌, ◌-◌, ◌<◌, ◌≤◌, List, [], ◌∷◌, ◌++◌, length, All, sym, subst, ap, ◌∙◌, length-append, arith}
use Rattle.std.proofs.lemmas.List.Elements.{All-push}

all_below_more : (set : List ℕ) (m n : ℕ) → All (λ k. k < m) set → m ≤ n → All (λ k. k < n) set
all_below_more set m n below le k d lt = let b = below k d lt in omega arith

pub below_next : (set longer : List ℕ) (before n : ℕ) → All (λ m. m < before) set → before < n → longer ≡ set ++ (n - 1) ∷ []
    → All (λ m. m < n) longer
below_next set longer before n below lt pushed =
    subst (λ (ms : List ℕ). All (λ m. m < n) ms) (sym pushed)
    (All-push (λ m. m < n) set (n - 1) (all_below_more set before n below (omega arith)) (omega arith))

-- the first one
pub below_first : (longer : List ℕ) (n : ℕ) → 1 ≤ n → longer ≡ (n - 1) ∷ [] → All (λ m. m < n) longer
below_first longer n le pushed = below_next [] longer 0 n (λ k d lt. absurd (omega arith)) (omega arith) pushed

pub some_pushed : {A : Type 0} (xs longer : List A) (x : A) → longer ≡ xs ++ x ∷ [] → 0 < length longer
some_pushed xs longer x pushed = let long : length longer ≡ length xs + 1 = ap length pushed ∙ length-append xs (x ∷ []) in omega arith
