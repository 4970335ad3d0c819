-- The labels of akin lines, and the three lines that two labels give.
use Rattle.std.proofs.Common.{◌≡◌, ◌≢◌, ℕ, ◌+◌, ◌<◌, ◌⊎◌, inl, inr, List, [], ◌∷◌, ◌++◌, length, get_or, sym, ap, ◌∙◌, subst, arith, Bool, true, false}
use Rattle.std.proofs.Math.Decide.{dec_lt}
use Rattle.std.proofs.lemmas.Bool.{true≢false, cases_Bool}
use Rattle.std.proofs.lemmas.List.{length_push, get_or_append_left, get_or_push}
use Rattle.class_theory.proofs.Labels.{IsSymmetric, label, label_least, label_own}
use Rattle.classes.specs.ClassLabels.{AreLabels, IsTriple}

module _ (akin : ℕ → ℕ → Bool) (i : ℕ) where
  -- a line is the label of i that is akin, where none before it is
  pub label_is : (k : ℕ) → k < i → akin i k ≡ true → ((j : ℕ) → j < k → akin i j ≡ false) → k ≡ label akin i
  label_is k h e n = go (dec_lt (label akin i) k) (dec_lt k (label akin i))
    where
      own : label akin i < k → (label akin i ≡ i) ⊎ ((label akin i < i) × (akin i (label akin i) ≡ true)) → k ≡ label akin i
      own l (inl d) = absurd (omega arith)
      own l (inr d) = absurd (true≢false (sym d.1 ∙ n (label akin i) l))

      go : Dec (label akin i < k) → Dec (k < label akin i) → k ≡ label akin i
      go (yes l) d = own l (label_own akin i)
      go (no l) (yes m) = absurd (true≢false (sym e ∙ label_least akin i k m))
      go (no l) (no m) = omega arith

  pub label_alone : ((j : ℕ) → j < i → akin i j ≡ false) → i ≡ label akin i
  label_alone n = elim (label_own akin i) [ inl d ↦ sym d | inr d ↦ absurd (true≢false (sym d.1 ∙ n (label akin i) d.0)) ]

module _ (n : ℕ) (akin : ℕ → ℕ → Bool) (t : IsSymmetric n akin) (i j : ℕ) (a : i < n) (b : j < n) where
  -- akin lines, the first with the lesser label
  pub less_label : (x y : ℕ) → x ≡ label akin i → y ≡ label akin j → akin i j ≡ true → x < y →
      IsTriple n akin (record { first = x; middle = i; last = j })
  less_label x y p q e l = go (label_own akin i)
    where
      below : label akin i < label akin j
      below = omega arith

      go : (label akin i ≡ i) ⊎ ((label akin i < i) × (akin i (label akin i) ≡ true)) →
          IsTriple n akin (record { first = x; middle = i; last = j })
      go (inl d) = absurd (true≢false (sym (t.turned i j a b e) ∙ subst (λ m. akin j m ≡ false) d (label_least akin j (label akin i) below)))
      go (inr d) = pick (cases_Bool (akin x j))
        where
          x_in : x < n
          x_in = let h = d.0 in omega arith

          i_x : akin i x ≡ true
          i_x = subst (λ m. akin i m ≡ true) (sym p) d.1

          pick : (akin x j ≡ true) ⊎ (akin x j ≡ false) → IsTriple n akin (record { first = x; middle = i; last = j })
          pick (inl y) = absurd (true≢false (sym (t.turned x j x_in b y)
              ∙ subst (λ m. akin j m ≡ false) (sym p) (label_least akin j (label akin i) below)))
          pick (inr y) = record {
            first_in = x_in;
            middle_in = a;
            last_in = b;
            first_middle = t.turned i x a x_in i_x;
            middle_last = e;
            first_last = y;
          }

  -- lines with one label that are not akin
  pub same_label : (x y : ℕ) → x ≡ label akin i → y ≡ label akin j → x ≡ y → akin i j ≡ false → i ≢ j →
      IsTriple n akin (record { first = i; middle = x; last = j })
  same_label x y p q r e m = go (label_own akin i) (label_own akin j)
    where
      same : label akin i ≡ label akin j
      same = sym p ∙ r ∙ q

      go : (label akin i ≡ i) ⊎ ((label akin i < i) × (akin i (label akin i) ≡ true)) →
          (label akin j ≡ j) ⊎ ((label akin j < j) × (akin j (label akin j) ≡ true)) →
          IsTriple n akin (record { first = i; middle = x; last = j })
      go (inl c) (inl d) = absurd (m (sym c ∙ same ∙ d))
      go (inl c) (inr d) = absurd (true≢false (sym (t.turned j i b a (subst (λ k. akin j k ≡ true) (sym same ∙ c) d.1)) ∙ e))
      go (inr c) (inl d) = absurd (true≢false (sym (subst (λ k. akin i k ≡ true) (same ∙ d) c.1) ∙ e))
      go (inr c) (inr d) =
          let h = c.0 in
          let x_in : x < n = omega arith in
          record {
            first_in = a;
            middle_in = x_in;
            last_in = b;
            first_middle = subst (λ k. akin i k ≡ true) (sym p) c.1;
            middle_last = t.turned j x b x_in (subst (λ k. akin j k ≡ true) (sym q ∙ sym r) d.1);
            first_last = e;
          }

module _ (akin : ℕ → ℕ → Bool) where
  pub labels_none : (labels : List ℕ) → labels ≡ [] → AreLabels 0 akin labels
  labels_none labels e = record { long = ap length e; each = λ i h. absurd (omega arith) }

  -- one label more
  pub labels_more : (n x : ℕ) (labels after : List ℕ) → AreLabels n akin labels → after ≡ labels ++ x ∷ [] → x ≡ label akin n →
      AreLabels (n + 1) akin after
  labels_more n x labels after r e is = subst (AreLabels (n + 1) akin) (sym e) (record {
    long = let k = length_push labels x in let l = r.long in omega arith;
    each = λ i h. go i h (dec_lt i n);
  })
    where
      go : (i : ℕ) → i < n + 1 → Dec (i < n) → get_or (labels ++ x ∷ []) i 0 ≡ label akin i
      go i h (yes l) = let k = r.long in get_or_append_left labels (x ∷ []) 0 i (omega arith) ∙ r.each i l
      go i h (no m) =
          let k = r.long in
          let last : i ≡ n = omega arith in
          get_or_push labels x 0 i (omega arith) ∙ is ∙ ap (label akin) (sym last)
