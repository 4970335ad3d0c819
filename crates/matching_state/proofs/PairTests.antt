-- What tests of two values tell of their numbers.
use Rattle.std.proofs.Common.{◌≡◌, ◌≢◌, ℕ, Option, None, MatchOption, subst, Bool, true, false, not, ◌&&◌, IsTrue, true≢false, refl, sym, ap, ◌∙◌}
use Rattle.std.specs.Prelude.{◌↔◌}

module _ {X : Type 0} (eq : X → X → Bool) (number : X → ℕ) (equals : (x y : X) → IsTrue (eq x y) ↔ (number x ≡ number y)) where
  -- a test that values differ
  pub differ_test : (x y : X) (r : Bool) → r ≡ not (eq x y) → IsTrue r ↔ (number x ≢ number y)
  differ_test x y r e = go (eq x y) refl
    where
      go : (b : Bool) → eq x y ≡ b → IsTrue r ↔ (number x ≢ number y)
      go true t = (λ h q. true≢false (sym h ∙ e ∙ ap not t), λ n. absurd (n ((equals x y).0 t)))
      go false t = (λ h q. true≢false (sym ((equals x y).1 q) ∙ t), λ n. e ∙ ap not t)

  -- a test that a pair isn't zero
  pub pair_test : (none : ℕ) (a b z w : X) (r : Bool) → r ≡ not (eq a z && eq b w) → number z ≡ none → number w ≡ none → IsTrue r ↔ ¬ ((number a ≡ none) × (number b ≡ none))
  pair_test none a b z w r e hz hw = go (eq a z) (eq b w) refl refl
    where
      go : (s t : Bool) → eq a z ≡ s → eq b w ≡ t → IsTrue r ↔ ¬ ((number a ≡ none) × (number b ≡ none))
      go true true p q = (λ h n. true≢false (sym h ∙ e ∙ ap (λ x. not (x && eq b w)) p ∙ ap not q), λ n. absurd (n ((equals a z).0 p ∙ hz, (equals b w).0 q ∙ hw)))
      go true false p q = (λ h n. true≢false (sym ((equals b w).1 (n.1 ∙ sym hw)) ∙ q), λ n. e ∙ ap (λ x. not (x && eq b w)) p ∙ ap not q)
      go false t p q = (λ h n. true≢false (sym ((equals a z).1 (n.0 ∙ sym hz)) ∙ p), λ n. e ∙ ap (λ x. not (x && eq b w)) p)

  -- as the pair is read
  pub pair_read : (none u v : ℕ) (a b z w : X) (r : Bool) → r ≡ not (eq a z && eq b w) → number z ≡ none → number w ≡ none → number a ≡ u → number b ≡ v → IsTrue r ↔ ¬ ((u ≡ none) × (v ≡ none))
  pair_read none u v a b z w r e hz hw p q =
      let t = pair_test none a b z w r e hz hw in
      (λ h n. t.0 h (p ∙ n.0, q ∙ n.1), λ n. t.1 (λ m. n (sym p ∙ m.0, sym q ∙ m.1)))

-- what isn't true
pub not_true : (b : Bool) → ¬ (IsTrue b) → b ≡ false
not_true true n = absurd (n refl)
not_true false n = refl

pub false_is_not : (b : Bool) → b ≡ false → ¬ (IsTrue b)
false_is_not b e t = true≢false (sym t ∙ e)

-- an answer that is none
pub none_told : {A : Type 0} (N : Type 0) (P : A → Type 0) (r : Option A) → r ≡ None → N → MatchOption r N P
none_told N P r e h = subst (λ q. MatchOption q N P) (sym e) h
