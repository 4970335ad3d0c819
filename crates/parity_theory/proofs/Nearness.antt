-- How many members of a target are not in a set yet: the measure of every walk toward it.
use Rattle.std.proofs.Common.{◌≡◌, ◌≢◌, ℕ, suc, ◌+◌, ◌⊎◌, inl, inr, List, [], ◌∷◌, refl, sym, ap, ◌∙◌, subst, arith, true, false, cond}
use Rattle.std.proofs.lemmas.Bool.{cases_Bool}
use Rattle.parity_theory.proofs.Exchanges.{IsSwap}
use Rattle.parity_theory.proofs.Parts.{has, has_in, in_has}
use Rattle.vector_spaces.proofs.Distinct.{IsDistinct}
use Rattle.vector_spaces.proofs.Members.{In, decide_in}

-- the members of T that are not in M, counted
unfoldable pub left_over : List ℕ → List ℕ → ℕ
left_over M [] = 0
left_over M (t ∷ T) = cond (has M t) 0 1 + left_over M T

-- a member of M does not count, and another one does
pub left_over_in : (M : List ℕ) (t : ℕ) (T : List ℕ) → In t M → left_over M (t ∷ T) ≡ left_over M T
unfolding left_over
left_over_in M t T i = let e : cond {A = ℕ} (has M t) 0 1 ≡ 0 = ap (λ b. cond {A = ℕ} b 0 1) (in_has M t i) in omega arith

pub left_over_out : (M : List ℕ) (t : ℕ) (T : List ℕ) → ¬ (In t M) → left_over M (t ∷ T) ≡ suc (left_over M T)
unfolding left_over
left_over_out M t T n = go (cases_Bool (has M t))
  where
    go : (has M t ≡ true) ⊎ (has M t ≡ false) → cond (has M t) 0 1 + left_over M T ≡ suc (left_over M T)
    go (inl e) = absurd (n (has_in M t e))
    go (inr e) = let k : cond {A = ℕ} (has M t) 0 1 ≡ 1 = ap (λ b. cond {A = ℕ} b 0 1) e in omega arith

left_over_same : (M N T : List ℕ) → ((t : ℕ) → In t T → In t M → In t N) → ((t : ℕ) → In t T → In t N → In t M) → left_over M T ≡ left_over N T
unfolding left_over
left_over_same M N [] h k = refl
left_over_same M N (t ∷ T) h k = go (decide_in t M) (left_over_same M N T (λ x i. h x (inr i)) (λ x i. k x (inr i)))
  where
    go : Dec (In t M) → left_over M T ≡ left_over N T → left_over M (t ∷ T) ≡ left_over N (t ∷ T)
    go (yes i) ih = left_over_in M t T i ∙ ih ∙ sym (left_over_in N t T (h t (inl refl) i))
    go (no n) ih = left_over_out M t T n ∙ ap suc ih ∙ sym (left_over_out N t T (λ j. n (k t (inl refl) j)))

-- N has the members of M but m, which is not in T, and h, which is in T and not in M
pub nearness : (M N T : List ℕ) (m h : ℕ) → IsDistinct T → In h T → ¬ (In h M) → ¬ (In m T) → In h N → ((l : ℕ) → In l M → l ≢ m → In l N) → ((l : ℕ) → In l N → l ≢ h → In l M) → suc (left_over N T) ≡ left_over M T
nearness M N [] m h d i n k j into from = absurd i
nearness M N (t ∷ T) m h d (inl e) n k j into from =
    let same : left_over M T ≡ left_over N T = left_over_same M N T (λ x q r. into x r (λ z. k (inr (subst (λ y. In y T) z q)))) (λ x q r. from x r (λ z. d.0 (subst (λ y. In y T) (z ∙ e) q))) in
    let a : left_over M (t ∷ T) ≡ suc (left_over M T) = left_over_out M t T (λ q. n (subst (λ y. In y M) (sym e) q)) in
    let b : left_over N (t ∷ T) ≡ left_over N T = left_over_in N t T (subst (λ y. In y N) e j) in
    omega arith
nearness M N (t ∷ T) m h d (inr i) n k j into from = go (decide_in t M) (nearness M N T m h d.1 i n (λ q. k (inr q)) j into from)
  where
    go : Dec (In t M) → suc (left_over N T) ≡ left_over M T → suc (left_over N (t ∷ T)) ≡ left_over M (t ∷ T)
    go (yes q) ih = let a = left_over_in M t T q in let b = left_over_in N t T (into t q (λ z. k (inl (sym z)))) in omega arith
    go (no q) ih = let a = left_over_out M t T q in let b = left_over_out N t T (λ r. q (from t r (λ z. d.0 (subst (λ y. In y T) (sym z) i)))) in omega arith

-- an exchange for a line of the target, of a line that is none, comes nearer by one
pub nearness_falls : (M N T : List ℕ) (m e : ℕ) → IsSwap M m e N → IsDistinct T → In e T → ¬ (In e M) → ¬ (In m T) → suc (left_over N T) ≡ left_over M T
nearness_falls M N T m e w d i n k = nearness M N T m e d i n k w.new w.kept (λ l q z. (w.only l q z).0)
