-- Counts of the numbers that a list has.
use Rattle.std.proofs.Common.{◌≡◌, ℕ, suc, ◌≤◌, ◌<◌, inl, inr, List, [], ◌∷◌, length, refl, sym, ap, ◌∙◌, arith, Bool, true, false}
use Rattle.std.specs.Prelude.{◌≢◌, ◌&&◌, not, nat_eq}
use Rattle.std.proofs.Math.Decide.{dec_lt}
use Rattle.std.proofs.lemmas.Bool.{cases_Bool, true≢false, and_parts, false_from_ne_true}
use Rattle.vector_spaces.proofs.Members.{In}
use Rattle.graph_theory.specs.Counts.{count}
use Rattle.graph_theory.proofs.Counts.{except, except-same, count_drop_one, count_mono, count_none}
use Rattle.graph_theory.proofs.Labels.{yes-nat_eq}

count_except : (n : ℕ) (P : ℕ → Bool) (a : ℕ) → count n P ≤ suc (count n (except P a))
count_except n P a = elim (dec_lt a n) [
  | no m ↦ (let l = count_mono n P (except P a) (λ w k e. except-same P a w (λ d. omega arith) ∙ e) in omega arith)
  | yes l ↦ elim (cases_Bool (P a)) [
    | inl e ↦ (let d = count_drop_one n P (except P a) a l e (λ w m. refl) in omega arith)
    | inr e ↦ (let m = count_mono n P (except P a) (λ w k d. except-same P a w (λ q. true≢false (sym d ∙ ap P q ∙ e)) ∙ d) in omega arith)
  ]
]

-- the numbers of a list are no fewer than those that pass, where it has them all
pub count_at_most_list : (n : ℕ) (P : ℕ → Bool) (xs : List ℕ) → ((w : ℕ) → w < n → P w ≡ true → In w xs) → count n P ≤ length xs
count_at_most_list n P [] h = let e = count_none n P (λ w l. false_from_ne_true (P w) (λ t. h w l t)) in omega arith
count_at_most_list n P (x ∷ xs) h =
    let a = count_except n P x in
    let b = count_at_most_list n (except P x) xs (λ w l e. elim (h w l (and_parts (P w) (not (nat_eq w x)) e).0) [
      | inl d ↦ absurd (true≢false (sym (and_parts (P w) (not (nat_eq w x)) e).1 ∙ ap not (yes-nat_eq w x d)))
      | inr i ↦ i
    ]) in omega arith
