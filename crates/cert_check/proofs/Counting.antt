-- Counts of positions in parts.
use Rattle.std.proofs.Common.{◌≡◌, ◌≢◌, ℕ, ◌+◌, ◌<◌, ◌≤◌, ◌⊎◌, inl, inr, List, length, take, get_or, min, true, false, cond, eqb, ◌||◌}
use Rattle.std.proofs.Common.{refl, sym, ap, ◌∙◌, subst, arith}
use Rattle.std.proofs.Math.ListN.{set}
use Rattle.std.specs.List.{list_any}
use Rattle.std.specs.List.Sorted.{IsStrictlyIncreasing}
use Rattle.std.proofs.lemmas.Bool.{eq-eqb, ne_eqb}
use Rattle.std.proofs.lemmas.Bool.Decides.{eqb_tells}
use Rattle.std.proofs.Math.Bool.{or-true, or-false}
use Rattle.std.proofs.lemmas.List.{get_or-set_other, get_or-take, get_or_default, length-take-le}
use Rattle.std.proofs.lemmas.List.Folds.{list_any_none, list_any_more}
use Rattle.std.proofs.lemmas.List.Kept.{AllPairs-from_increasing}
use Rattle.std.proofs.lemmas.Grind.{get_or-set_at}
use Rattle.parity_lines.specs.Certificates.{parts_with}
use Rattle.cert_check.specs.Counts.{once_in, IsFirstWith}

-- what a count up to two becomes
counted_one_more : (old before new : ℕ) → before ≡ min 2 (old + 0) → new ≡ min (before + 1) 2 → new ≡ min 2 (old + 1)
counted_one_more old before new e f = omega arith

module _ (part : List ℕ) (i m : ℕ) (h : i < length part) where
  -- the position at the index is new, since those before are less
  once_before : IsStrictlyIncreasing part → m ≡ get_or part i 0 → once_in (take i part) m ≡ 0
  once_before s e = ap (λ b. cond {A = ℕ} b 1 0)
      (list_any_none (λ l. eqb l m) (take i part) (λ k d l. ne_eqb (get_or (take i part) k d) m (λ same.
      let n = length-take-le i part (omega arith) in
      let read = get_or-take i part k d (omega arith) in
      let below = AllPairs-from_increasing part s k i d (omega arith) h in
      let at = get_or_default part i d 0 h in
      absurd (omega arith))))

  once_after : m ≡ get_or part i 0 → once_in (take (i + 1) part) m ≡ 1
  once_after e = ap (λ b. cond {A = ℕ} b 1 0) {y = true}
      (list_any_more (λ l. eqb l m) part i 0 h
      ∙ ap (λ b. list_any (λ l. eqb l m) (take i part) || b) (ap (λ x. eqb x m) (sym e) ∙ eq-eqb m m refl)
      ∙ or-true (list_any (λ l. eqb l m) (take i part)))

  once_other : m ≢ get_or part i 0 → once_in (take (i + 1) part) m ≡ once_in (take i part) m
  once_other n = ap (λ b. cond {A = ℕ} b 1 0)
      (list_any_more (λ l. eqb l m) part i 0 h
      ∙ ap (λ b. list_any (λ l. eqb l m) (take i part) || b) (ne_eqb (get_or part i 0) m (λ e. n (sym e)))
      ∙ or-false (list_any (λ l. eqb l m) (take i part)))

pub count_step : (part old before : List ℕ) (i line c : ℕ) → IsStrictlyIncreasing part → i < length part → line ≡ get_or part i 0
    → length before ≡ length old → line < length old → c ≡ min (get_or before line 0 + 1) 2 →
    ((m : ℕ) → m < length old → get_or before m 0 ≡ min 2 (get_or old m 0 + once_in (take i part) m)) → (m : ℕ) → m < length old
    → get_or (set before line c) m 0 ≡ min 2 (get_or old m 0 + once_in (take (i + 1) part) m)
count_step part old before i line c s h is long within is_c so_far m k = go (eqb_tells m line)
  where
    go : ((eqb m line ≡ true) × (m ≡ line)) ⊎ ((eqb m line ≡ false) × (m ≡ line → ⊥))
        → get_or (set before line c) m 0 ≡ min 2 (get_or old m 0 + once_in (take (i + 1) part) m)
    go (inl e) =
        let is_m : m ≡ get_or part i 0 = e.1 ∙ is in
        get_or-set_at before line m c 0 e.1 (omega arith)
        ∙ counted_one_more (get_or old m 0) (get_or before m 0) c
        (so_far m k ∙ ap (λ n. min 2 (get_or old m 0 + n)) (once_before part i m h s is_m))
        (is_c ∙ ap (λ l. min (get_or before l 0 + 1) 2) (sym e.1))
        ∙ ap (λ n. min 2 (get_or old m 0 + n)) (sym (once_after part i m h is_m))
    go (inr n) =
        get_or-set_other before line m c 0 (λ e. n.1 e) ∙ so_far m k
        ∙ ap (λ n. min 2 (get_or old m 0 + n)) (sym (once_other part i m h (λ e. n.1 (e ∙ sym is))))

-- what the counts, which stop at two, tell of the parts
module _ (counts : List ℕ) (n : ℕ) (parts : List (List ℕ)) (items : List ℕ) (is : counts ≡ items) (long : length items ≡ n)
    (counted : (m : ℕ) → m < n → get_or items m 0 ≡ min 2 (parts_with parts m)) where
  count_at : (m : ℕ) → m < n → get_or counts m 0 ≡ min 2 (parts_with parts m)
  count_at m h = ap (λ xs. get_or xs m 0) is ∙ counted m h

  as_long : length counts ≡ n
  as_long = ap length is ∙ long

  pub missing_told : (m : ℕ) → IsFirstWith counts 0 m → (m < n) × (parts_with parts m ≡ 0) × ((k : ℕ) → k < m → 1 ≤ parts_with parts k)
  missing_told m f =
      let within : m < n = subst (λ l. m < l) as_long f.within in
      let here = count_at m within in
      let holds = f.holds in
      (within, omega arith, λ k l. let there = count_at k (omega arith) in let no = f.none_before k l in omega arith)

  pub covered_told : ((k : ℕ) → k < length counts → get_or counts k 0 ≢ 0) → (m : ℕ) → m < n → 1 ≤ parts_with parts m
  covered_told f m h = let here = count_at m h in let no = f m (subst (λ l. m < l) (sym as_long) h) in omega arith

  pub twice_told : (m : ℕ) → IsFirstWith counts 2 m → (m < n) × (2 ≤ parts_with parts m) × ((k : ℕ) → k < m → parts_with parts k ≤ 1)
  twice_told m f =
      let within : m < n = subst (λ l. m < l) as_long f.within in
      let here = count_at m within in
      let holds = f.holds in
      (within, omega arith, λ k l. let there = count_at k (omega arith) in let no = f.none_before k l in omega arith)

  pub disjoint_told : ((k : ℕ) → k < length counts → get_or counts k 0 ≢ 2) → (m : ℕ) → m < n → parts_with parts m ≤ 1
  disjoint_told f m h = let here = count_at m h in let no = f m (subst (λ l. m < l) (sym as_long) h) in omega arith
