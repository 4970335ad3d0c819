-- Words whose elements move by one place.
use Rattle.std.proofs.Common.{◌≡◌, ◌≢◌, ℕ, zero, suc, ◌+◌, ◌-◌, ◌*◌, ◌/◌, ◌%◌, ◌^◌, ◌<◌, ◌≤◌, inl, inr, List, ◌++◌, take, drop, length, get_or}
use Rattle.std.proofs.Common.{refl, sym, ap, ap₂, subst, ◌∙◌, arith}
use Rattle.std.specs.Int.{bit_at}
use Rattle.std.specs.Int.Bits.{bit_xor, bit_or, bit_and}
use Rattle.std.proofs.Math.ListN.{set}
use Rattle.std.proofs.lemmas.Bool.{cases_lt, cases_eq}
use Rattle.std.proofs.lemmas.List.{get_or_past, get_or-set_same, get_or-set_other}
use Rattle.std.proofs.lemmas.Nat.{pow_pos}
use Rattle.std.proofs.lemmas.Nat.Bits.{bit_at-zero, bit_at-lt, bit_at-suc, bit_at_lowest, bit_at_xor, bit_at_or, bit_at_and, bit_at_cat_low, bit_at_cat_high, bit_at_above}
use Rattle.field_core.proofs.Refills.{refill_same}
use Rattle.packed_rows.specs.Packed.{element, elements, AreWords}
use Rattle.packed_rows.specs.Shifts.{AreShifted}
use Rattle.packed_rows.proofs.Elements.{length-elements, elements-at, count_is, element-of_word}

-- ---- a word that is blended

pub bit_from_new : (o n m j : ℕ) → bit_at m j ≡ 1 → bit_at (bit_xor o (bit_and (bit_xor o n) m)) j ≡ bit_at n j
bit_from_new o n m j e =
    omega (arith, e, bit_at_xor o (bit_and (bit_xor o n) m) j, bit_at_and (bit_xor o n) m j, bit_at_xor o n j, bit_at-lt o j, bit_at-lt n j)

pub bit_from_old : (o n m j : ℕ) → bit_at m j ≡ 0 → bit_at (bit_xor o (bit_and (bit_xor o n) m)) j ≡ bit_at o j
bit_from_old o n m j e =
    omega (arith, e, bit_at_xor o (bit_and (bit_xor o n) m) j, bit_at_and (bit_xor o n) m j, bit_at-lt o j, bit_at-lt (bit_xor o n) j)

-- the ones from bit `low` up to bit `high`, as a difference
pub mask_is : (more less low high j : ℕ) → more ≡ 2 ^ high - 1 → less ≡ 2 ^ low - 1 → bit_at (more - less) j ≡ bit_at (2 ^ high - 2 ^ low) j
mask_is more less low high j is_more is_less =
    let e : more - less ≡ 2 ^ high - 2 ^ low = omega (arith, pow_pos low, pow_pos high) in
    ap (λ m. bit_at m j) e

-- ---- a word whose bits move by one place

-- what is cut off above changes no bit below
bit_at_cut : (n j : ℕ) → j < 64 → bit_at (n % 18446744073709551616) j ≡ bit_at n j
bit_at_cut n j l =
    let q = n / 18446744073709551616 in
    let r = n % 18446744073709551616 in
    let parts : q * 2 ^ 64 + r ≡ n = omega arith in
    sym (bit_at_cat_low q 64 r j l) ∙ ap (λ x. bit_at x j) parts

bit_at_shl_below : (n k j : ℕ) → j < k → bit_at (n * 2 ^ k) j ≡ 0
bit_at_shl_below n k j l =
    let e : n * 2 ^ k ≡ n * 2 ^ k + 0 = omega arith in
    ap (λ x. bit_at x j) e ∙ bit_at_cat_low n k 0 j l ∙ bit_at-zero j

bit_at_shl-63 : (n : ℕ) → bit_at (n * 2 ^ 63) 63 ≡ bit_at n 0
bit_at_shl-63 n =
    let e : n * 2 ^ 63 ≡ n * 2 ^ 63 + 0 = omega arith in
    ap (λ x. bit_at x 63) e ∙ bit_at_cat_high n 63 0 63 (omega arith) (omega arith)

module _ (ws : List ℕ) (w : ℕ) where
  -- a: the word, b: the next one
  pub upper-bit : (a b j : ℕ) → a < 2 ^ 64 → a ≡ get_or ws w 0 → b ≡ get_or ws (w + 1) 0 → j < 64 →
      bit_at (bit_or (a / 2) (b * 2 ^ 63 % 18446744073709551616)) j ≡ element ws (64 * w + j + 1)
  upper-bit a b j fits is_a is_b l =
      let high : bit_at (b * 2 ^ 63 % 18446744073709551616) j ≡ bit_at (b * 2 ^ 63) j = bit_at_cut (b * 2 ^ 63) j l in
      let or = bit_at_or (a / 2) (b * 2 ^ 63 % 18446744073709551616) j in
      elim (cases_lt j 63) [
        | inl m ↦
            let place : 64 * w + (j + 1) ≡ 64 * w + j + 1 = omega arith in
            let up : j + 1 ≡ suc j = omega arith in
            let here : element ws (64 * w + j + 1) ≡ bit_at (a / 2) j =
            ap (element ws) (sym place) ∙ element-of_word ws w (j + 1) (omega arith) ∙ ap₂ bit_at (sym is_a) up ∙ bit_at-suc a j in
            omega (arith, or, high, bit_at_shl_below b 63 j m, here)
        | inr m ↦
            let top : j ≡ 63 = omega arith in
            let place : 64 * (w + 1) + 0 ≡ 64 * w + j + 1 = omega arith in
            let none : bit_at (a / 2) j ≡ 0 = bit_at_above (a / 2) 63 j (omega arith) m in
            let here : element ws (64 * w + j + 1) ≡ bit_at b 0 = ap (element ws) (sym place) ∙ element-of_word ws (w + 1) 0 (omega arith) ∙ ap (λ x. bit_at x 0) (sym is_b) in
            let last : bit_at (b * 2 ^ 63) j ≡ bit_at b 0 = ap (bit_at (b * 2 ^ 63)) top ∙ bit_at_shl-63 b in
            omega (arith, or, high, none, here, last)
      ]

  -- a: the word, b: the one before
  pub lower-bit : (a b i j : ℕ) → b < 2 ^ 64 → a ≡ get_or ws w 0 → ((k : ℕ) → k + 1 ≡ w → b ≡ get_or ws k 0) → j < 64 → i + 1 ≡ 64 * w + j →
      bit_at (bit_or (a * 2 % 18446744073709551616) (b / 2 ^ 63)) j ≡ element ws i
  lower-bit a b i zero fits is_a is_b l e =
      let or = bit_at_or (a * 2 % 18446744073709551616) (b / 2 ^ 63) 0 in
      let low : bit_at (a * 2 % 18446744073709551616) 0 ≡ 0 = bit_at_cut (a * 2) 0 l ∙ bit_at_lowest (a * 2) ∙ omega arith in
      let before : w - 1 + 1 ≡ w = omega arith in
      let place : 64 * (w - 1) + 63 ≡ i = omega arith in
      let here : element ws i ≡ bit_at b 63 = ap (element ws) (sym place) ∙ element-of_word ws (w - 1) 63 (omega arith) ∙ ap (λ x. bit_at x 63) (sym (is_b (w - 1) before)) in
      omega (arith, or, low, bit_at_lowest (b / 2 ^ 63), here)
  lower-bit a b i (suc j) fits is_a is_b l e =
      let or = bit_at_or (a * 2 % 18446744073709551616) (b / 2 ^ 63) (suc j) in
      let half : a * 2 / 2 ≡ a = omega arith in
      let low : bit_at (a * 2 % 18446744073709551616) (suc j) ≡ bit_at a j = bit_at_cut (a * 2) (suc j) l ∙ bit_at-suc (a * 2) j ∙ ap (λ x. bit_at x j) half in
      let none : bit_at (b / 2 ^ 63) (suc j) ≡ 0 = bit_at_above (b / 2 ^ 63) 1 (suc j) (omega arith) (omega arith) in
      let place : 64 * w + j ≡ i = omega arith in
      let here : element ws i ≡ bit_at a j = ap (element ws) (sym place) ∙ element-of_word ws w j (omega arith) ∙ ap (λ x. bit_at x j) (sym is_a) in
      omega (arith, or, low, none, here)

-- ---- one word is replaced

module _ (ws : List ℕ) (w x : ℕ) (within : w < length ws) where
  element-same : (i : ℕ) → i / 64 ≡ w → element (set ws w x) i ≡ bit_at x (i % 64)
  element-same i e = ap (λ n. bit_at (get_or (set ws w x) n 0) (i % 64)) e ∙ ap (λ y. bit_at y (i % 64)) (get_or-set_same ws w x 0 within)

  element-other : (i : ℕ) → i / 64 ≢ w → element (set ws w x) i ≡ element ws i
  element-other i apart = ap (λ y. bit_at y (i % 64)) (get_or-set_other ws w (i / 64) x 0 apart)

-- x is the word at place w, but for the bits from low up to high, which are y's
module _ (ws : List ℕ) (w x y o low high : ℕ) (within : w < length ws) (fits : high ≤ 64) (is : o ≡ get_or ws w 0)
    (inside : (j : ℕ) → low ≤ j → j < high → bit_at x j ≡ bit_at y j) (below : (j : ℕ) → j < low → bit_at x j ≡ bit_at o j)
    (above : (j : ℕ) → high ≤ j → bit_at x j ≡ bit_at o j) where
  old-bit : (i : ℕ) → i / 64 ≡ w → bit_at o (i % 64) ≡ element ws i
  old-bit i e = ap (λ z. bit_at z (i % 64)) is ∙ ap (λ n. bit_at (get_or ws n 0) (i % 64)) (sym e)

  before-range : (i : ℕ) → i < 64 * w + low → element (set ws w x) i ≡ element ws i
  before-range i l = elim (cases_eq (i / 64) w) [
    | inl e ↦ element-same ws w x within i e ∙ below (i % 64) (omega arith) ∙ old-bit i e
    | inr apart ↦ element-other ws w x within i apart
  ]

  behind-range : (i : ℕ) → 64 * w + high ≤ i → element (set ws w x) i ≡ element ws i
  behind-range i l = elim (cases_eq (i / 64) w) [
    | inl e ↦ element-same ws w x within i e ∙ above (i % 64) (omega arith) ∙ old-bit i e
    | inr apart ↦ element-other ws w x within i apart
  ]

  in-range : (i : ℕ) → 64 * w + low ≤ i → i < 64 * w + high → element (set ws w x) i ≡ bit_at y (i % 64)
  in-range i l m = element-same ws w x within i (omega arith) ∙ inside (i % 64) (omega arith) (omega arith)

  pub lowered : (at count : ℕ) → 64 * w + low ≡ at → low + count ≡ high → ((j : ℕ) → j < 64 → bit_at y j ≡ element ws (64 * w + j + 1)) →
      AreShifted at (at + count) (element ws) (element (set ws w x))
  lowered at count start many upper = record {
    down = λ i l m.
        let place : 64 * w + i % 64 + 1 ≡ i + 1 = omega arith in
        in-range i (omega arith) (omega arith) ∙ upper (i % 64) (omega arith) ∙ ap (element ws) place;
    up = λ i l m. absurd (omega arith);
    end = behind-range (at + count) (omega arith);
    below = λ i l m. before-range i (omega arith);
    above = λ i l m. behind-range i (omega arith);
  }

  pub raised : (at count : ℕ) → 64 * w + high ≡ at + 1 → low + count ≡ high → count ≤ at →
      ((i j : ℕ) → j < 64 → i + 1 ≡ 64 * w + j → bit_at y j ≡ element ws i) →
      AreShifted at (at - count) (element ws) (element (set ws w x))
  raised at count start many enough lower = record {
    down = λ i l m. absurd (omega arith);
    up = λ i l m. in-range (i + 1) (omega arith) (omega arith) ∙ lower i ((i + 1) % 64) (omega arith) (omega arith);
    end = before-range (at - count) (omega arith);
    below = λ i l m. before-range i (omega arith);
    above = λ i l m. behind-range i (omega arith);
  }

-- ---- shifts after one another

pub shifted_none : (at : ℕ) (o : ℕ → ℕ) → AreShifted at at o o
shifted_none at o = record {
  down = λ i l m. absurd (omega arith);
  up = λ i l m. absurd (omega arith);
  end = refl;
  below = λ i l m. refl;
  above = λ i l m. refl;
}

module _ (a b c : ℕ) (o n m : ℕ → ℕ) (first : AreShifted a b o n) (second : AreShifted b c n m) where
  pub shifted_on : a ≤ b → b ≤ c → AreShifted a c o m
  shifted_on p q = record {
    down = λ i l k. elim (cases_lt i b) [
      | inl less ↦ second.below i less k ∙ first.down i l less
      | inr more ↦ second.down i more k ∙ first.above (i + 1) (omega arith) (omega arith)
    ];
    up = λ i l k. absurd (omega arith);
    end = elim (cases_eq c b) [
      | inl e ↦ second.end ∙ ap n e ∙ first.end ∙ ap o (sym e)
      | inr apart ↦ second.end ∙ first.above c (omega (arith, apart)) (omega (arith, apart))
    ];
    below = λ i l k. second.below i (omega arith) k ∙ first.below i l (omega arith);
    above = λ i l k. second.above i (omega arith) k ∙ first.above i l (omega arith);
  }

  pub shifted_back : b ≤ a → c ≤ b → AreShifted a c o m
  shifted_back p q = record {
    down = λ i l k. absurd (omega arith);
    up = λ i l k. elim (cases_lt i b) [
      | inl less ↦ second.up i l less ∙ first.below i (omega arith) less
      | inr more ↦ second.above (i + 1) (omega arith) (omega arith) ∙ first.up i more k
    ];
    end = elim (cases_eq c b) [
      | inl e ↦ second.end ∙ ap n e ∙ first.end ∙ ap o (sym e)
      | inr apart ↦ second.end ∙ first.below c (omega (arith, apart)) (omega (arith, apart))
    ];
    below = λ i l k. second.below i (omega arith) k ∙ first.below i (omega arith) (omega arith);
    above = λ i l k. second.above i (omega arith) (omega arith) ∙ first.above i l (omega arith);
  }

-- ---- the words of a vector are shifted

element_listed : (ws : List ℕ) (n : ℕ) → AreWords ws n → (i : ℕ) → get_or (elements ws n) i 0 ≡ element ws i
element_listed ws n are i = elim (cases_lt i n) [
  | inl l ↦ elements-at ws n i l
  | inr l ↦ get_or_past (elements ws n) i 0 (omega (arith, length-elements ws n)) ∙ sym (are.behind i l)
]

-- ws are the words of u; `old` is what is lent of them, and `new` what it becomes
module _ (ws : List ℕ) (n : ℕ) (u : List ℕ) (from to len : ℕ) (old new : List ℕ) (are : AreWords ws n) (e : elements ws n ≡ u)
    (source : from < length u) (target : to < length u) (is_old : old ≡ ws) (ok : len ≡ length ws)
    (count : length new ≡ length old) (h : AreShifted from to (element old) (element new)) where
  written : take len (new ++ drop (length new) ws) ≡ new
  written = refill_same len ws new (count ∙ ap length is_old ∙ sym ok)

  moved : AreShifted from to (element ws) (element new)
  moved = subst (λ o. AreShifted from to (element o) (element new)) is_old h

  new-words : AreWords new n
  new-words = record {
    count = count ∙ ap length is_old ∙ are.count;
    behind = λ i l. moved.above i (omega (arith, count_is ws n u e)) (omega (arith, count_is ws n u e)) ∙ are.behind i l;
  }

  pub shifted-words : AreWords (take len (new ++ drop (length new) ws)) n
  shifted-words = subst (λ w. AreWords w n) (sym written) new-words

  pub shifted-length : length (elements (take len (new ++ drop (length new) ws)) n) ≡ length u
  shifted-length = length-elements (take len (new ++ drop (length new) ws)) n ∙ count_is ws n u e

  listed : (i : ℕ) → get_or u i 0 ≡ element ws i
  listed i = ap (λ v. get_or v i 0) (sym e) ∙ element_listed ws n are i

  now : (i : ℕ) → get_or (elements (take len (new ++ drop (length new) ws)) n) i 0 ≡ element new i
  now i = ap (λ w. get_or (elements w n) i 0) written ∙ element_listed new n new-words i

  pub shifted-elements : AreShifted from to (λ i. get_or u i 0) (λ i. get_or (elements (take len (new ++ drop (length new) ws)) n) i 0)
  shifted-elements = record {
    down = λ i l m. now i ∙ moved.down i l m ∙ sym (listed (i + 1));
    up = λ i l m. now (i + 1) ∙ moved.up i l m ∙ sym (listed i);
    end = now to ∙ moved.end ∙ sym (listed to);
    below = λ i l m. now i ∙ moved.below i l m ∙ sym (listed i);
    above = λ i l m. now i ∙ moved.above i l m ∙ sym (listed i);
  }
