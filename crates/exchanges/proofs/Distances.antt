-- The distance of a set from a target, as the lines that are left over.
use Rattle.std.proofs.Common.{◌≡◌, ℕ, ◌+◌, ◌≤◌, inl, inr, List, [], ◌∷◌, Bool, true, false, nat_eq, not, cond, ◌||◌, refl, sym, ap, ap₂, ◌∙◌, arith}
use Rattle.std.specs.List.{list_any}
use Rattle.std.proofs.lemmas.List.Sums.{sum_by-cons}
use Rattle.vector_spaces.proofs.Members.{In, decide_in}
use Rattle.exchanges.specs.Exchanges.{distance}
use Rattle.parity_theory.proofs.Nearness.{left_over, left_over_in, left_over_out}
use Rattle.parity_theory.proofs.Parts.{has}

has-any : (M : List ℕ) (l : ℕ) → has M l ≡ list_any (λ m. nat_eq l m) M
unfolding has
has-any [] l = refl
has-any (m ∷ M) l = ap (λ b. nat_eq l m || b) (has-any M l)

cond-not : (b : Bool) → cond {A = ℕ} b 0 1 ≡ cond (not b) 1 0
cond-not true = refl
cond-not false = refl

pub left_over-distance : (M T : List ℕ) → left_over M T ≡ distance M T
unfolding left_over
left_over-distance M [] = refl
left_over-distance M (t ∷ T) =
    ap₂ (λ a b. a + b) (ap (λ b. cond {A = ℕ} b 0 1) (has-any M t) ∙ cond-not (list_any (λ m. nat_eq t m) M)) (left_over-distance M T)
    ∙ sym (sum_by-cons (λ (l : ℕ). cond {A = ℕ} (not (list_any (λ m. nat_eq l m) M)) 1 0) t T)

-- with more lines of the target, a set is no farther
pub left_over_fewer : (M N T : List ℕ) → ((t : ℕ) → In t T → In t M → In t N) → left_over N T ≤ left_over M T
unfolding left_over
left_over_fewer M N [] h = omega arith
left_over_fewer M N (t ∷ T) h = go (decide_in t M) (decide_in t N) (left_over_fewer M N T (λ x i. h x (inr i)))
  where
    go : Dec (In t M) → Dec (In t N) → left_over N T ≤ left_over M T → left_over N (t ∷ T) ≤ left_over M (t ∷ T)
    go d (yes j) ih = elim d [
      | yes i ↦ (let a = left_over_in M t T i in let b = left_over_in N t T j in omega arith)
      | no n ↦ (let a = left_over_out M t T n in let b = left_over_in N t T j in omega arith)
    ]
    go (yes i) (no n) ih = absurd (n (h t (inl refl) i))
    go (no m) (no n) ih = let a = left_over_out M t T m in let b = left_over_out N t T n in omega arith
