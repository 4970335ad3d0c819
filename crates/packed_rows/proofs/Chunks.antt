-- Words that are added and tested a chunk of four at a time.
use Rattle.std.proofs.Common.{◌≡◌, ℕ, zero, suc, subst, ◌+◌, ◌-◌, ◌*◌, ◌/◌, ◌<◌, ◌≤◌, inl, inr, List, [], ◌∷◌, length, get_or, take, drop}
use Rattle.std.proofs.Common.{refl, sym, ap, ap₂, ◌∙◌, arith}
use Rattle.std.specs.Int.Bits.{bit_xor, bit_or}
use Rattle.std.specs.Simd.{first_chunks}
use Rattle.std.specs.Simd.Lanes.{zip2, chunk, put_chunk, fold_l}
use Rattle.std.proofs.Math.ListN.{set}
use Rattle.std.proofs.Math.Nat.{mul_comm}
use Rattle.std.proofs.lemmas.Bool.{cases_lt, cases_eq}
use Rattle.std.proofs.lemmas.Nat.{le_or_l, le_or_r}
use Rattle.std.proofs.lemmas.List.{drop-drop, get_or_past, get_or-set_same, get_or-set_other, length-set}
use Rattle.std.proofs.lemmas.Simd.{length-chunk, length-zip2, length-put_chunk, get_or-chunk, get_or-zip2, get_or-put_chunk_below}
use Rattle.std.proofs.lemmas.Simd.{get_or-put_chunk_at, get_or-put_chunk_above}
use Rattle.packed_rows.specs.Words.{AreAdded, AreZero}

-- ---- chunks

-- chunk i of n words begins at word i n
chunk-at : {X : Type 0} (n k i : ℕ) (xs : List X) → i < k → get_or (first_chunks n k xs) i [] ≡ chunk (i * n) n xs
chunk-at n zero i xs l = absurd (omega arith)
chunk-at n (suc k) zero xs l = let e : 0 ≡ 0 * n = omega arith in ap (λ m. chunk m n xs) e
chunk-at n (suc k) (suc i) xs l =
    let e : n + i * n ≡ suc i * n = omega arith in
    chunk-at n k i (drop n xs) (omega arith) ∙ ap (take n) (drop-drop (i * n) n xs ∙ ap (λ m. drop m xs) e)

-- the same of the chunks that `as_chunks` lends
pub chunk_found : (xs : List ℕ) (chunks : List (List ℕ)) (i : ℕ) → chunks ≡ first_chunks 4 (length xs / 4) xs → i < length xs / 4 →
    get_or chunks i [] ≡ chunk (4 * i) 4 xs
chunk_found xs chunks i e l = ap (λ t. get_or t i []) e ∙ chunk-at 4 (length xs / 4) i xs l ∙ ap (λ m. chunk m 4 xs) (mul_comm i 4)

-- ---- sums

pub none_added : (old source : List ℕ) → AreAdded 0 old source old
none_added old source = record { count = refl; front = λ k l. absurd (omega arith); back = λ k l. refl }

pub all_added : (m n : ℕ) (old source new : List ℕ) → AreAdded m old source new → m ≡ n → AreAdded n old source new
all_added m n old source new h e = subst (λ k. AreAdded k old source new) e h

-- one chunk more
module _ (old source now piece : List ℕ) (i : ℕ) (same : length old ≡ length source) (within : i < length source / 4)
    (is_piece : piece ≡ chunk (4 * i) 4 source) (so_far : AreAdded (4 * i) old source now) where
  four : length piece ≡ 4
  four = ap length is_piece ∙ length-chunk (4 * i) 4 source (omega arith)

  enough : 4 * i + 4 ≤ length now
  enough = omega (arith, so_far.count)

  abbrev pub sums : List ℕ
  sums = zip2 bit_xor (chunk (4 * i) 4 now) piece

  sums_four : length sums ≡ 4
  sums_four = length-zip2 bit_xor (chunk (4 * i) 4 now) piece (length-chunk (4 * i) 4 now enough ∙ sym four) ∙ length-chunk (4 * i) 4 now enough

  sum-at : (j : ℕ) → j < 4 → get_or sums j 0 ≡ bit_xor (get_or old (4 * i + j) 0) (get_or source (4 * i + j) 0)
  sum-at j l =
      get_or-zip2 bit_xor (chunk (4 * i) 4 now) piece j 0 0 0 (omega (arith, length-chunk (4 * i) 4 now enough)) (omega (arith, four))
      ∙ ap₂ bit_xor (get_or-chunk (4 * i) 4 now j 0 l ∙ so_far.back (4 * i + j) (omega arith))
      (ap (λ p. get_or p j 0) is_piece ∙ get_or-chunk (4 * i) 4 source j 0 l)

  pub chunk_added : AreAdded (4 * (i + 1)) old source (put_chunk (4 * i) now sums)
  chunk_added = record {
    count = length-put_chunk (4 * i) now sums ∙ so_far.count;
    front = λ k l. elim (cases_lt k (4 * i)) [
      | inl m ↦ get_or-put_chunk_below (4 * i) now sums k 0 m ∙ so_far.front k m
      | inr m ↦
          let j = k - 4 * i in
          let e : 4 * i + j ≡ k = omega arith in
          let less : j < 4 = omega arith in
          subst (λ n. get_or (put_chunk (4 * i) now sums) n 0 ≡ bit_xor (get_or old n 0) (get_or source n 0)) e
          (get_or-put_chunk_at (4 * i) now sums j 0 (omega (arith, sums_four)) (omega (arith, sums_four, enough)) ∙ sum-at j less)
    ];
    back = λ k l. get_or-put_chunk_above (4 * i) now sums k 0 (omega (arith, sums_four)) ∙ so_far.back k (omega arith);
  }

-- one word more
pub word_added : (old source now : List ℕ) (i : ℕ) → length old ≡ length source → i < length source → AreAdded i old source now →
    AreAdded (i + 1) old source (set now i (bit_xor (get_or now i 0) (get_or source i 0)))
word_added old source now i same l so_far =
    let sum = bit_xor (get_or now i 0) (get_or source i 0) in
    record {
      count = length-set now i sum ∙ so_far.count;
      front = λ k m. elim (cases_eq k i) [
        | inl e ↦
            subst (λ n. get_or (set now i sum) n 0 ≡ bit_xor (get_or old n 0) (get_or source n 0)) (sym e)
            (get_or-set_same now i sum 0 (omega (arith, so_far.count)) ∙ ap (λ w. bit_xor w (get_or source i 0)) (so_far.back i (omega arith)))
        | inr apart ↦ get_or-set_other now i k sum 0 apart ∙ so_far.front k (omega (arith, apart))
      ];
      back = λ k m. get_or-set_other now i k sum 0 (λ e. absurd (omega arith)) ∙ so_far.back k (omega arith);
    }

-- ---- tests

or_zero : (a : ℕ) (xs : List ℕ) → fold_l bit_or a xs ≡ 0 → (a ≡ 0) × ((j : ℕ) → get_or xs j 0 ≡ 0)
or_zero a [] e = (e, λ j. refl)
or_zero a (x ∷ xs) e =
    let h = or_zero (bit_or a x) xs e in
    (omega (arith, le_or_l a x, h.0), at x xs (omega (arith, le_or_r a x, h.0)) h.1)
  where
    at : (x : ℕ) (xs : List ℕ) → x ≡ 0 → ((j : ℕ) → get_or xs j 0 ≡ 0) → (j : ℕ) → get_or (x ∷ xs) j 0 ≡ 0
    at x xs e z zero = e
    at x xs e z (suc j) = z j

zero_or : (a : ℕ) (xs : List ℕ) → a ≡ 0 → ((j : ℕ) → get_or xs j 0 ≡ 0) → fold_l bit_or a xs ≡ 0
zero_or a [] e z = e
zero_or a (x ∷ xs) e z = zero_or (bit_or a x) xs (ap₂ bit_or e (z 0)) (λ j. z (suc j))

-- the chunk is zero where its words are
pub lanes_zero : (xs piece : List ℕ) (i : ℕ) → i < length xs / 4 → piece ≡ chunk (4 * i) 4 xs → AreZero (length xs / 4 * 4) xs →
    fold_l bit_or 0 piece ≡ 0
lanes_zero xs piece i l e z =
    let four : length piece ≡ 4 = ap length e ∙ length-chunk (4 * i) 4 xs (omega arith) in
    zero_or 0 piece refl (λ j. elim (cases_lt j 4) [
      | inl m ↦ ap (λ p. get_or p j 0) e ∙ get_or-chunk (4 * i) 4 xs j 0 m ∙ z (4 * i + j) (omega arith)
      | inr m ↦ get_or_past piece j 0 (omega (arith, four))
    ])

-- and the words are where the chunk is
pub chunk_zero : (xs piece : List ℕ) (i : ℕ) → piece ≡ chunk (4 * i) 4 xs → fold_l bit_or 0 piece ≡ 0 → AreZero (4 * i) xs →
    AreZero (4 * (i + 1)) xs
chunk_zero xs piece i e none so_far k l = elim (cases_lt k (4 * i)) [
  | inl m ↦ so_far k m
  | inr m ↦
      let j = k - 4 * i in
      let is : k ≡ 4 * i + j = omega arith in
      ap (λ n. get_or xs n 0) is ∙ sym (get_or-chunk (4 * i) 4 xs j 0 (omega arith)) ∙ sym (ap (λ p. get_or p j 0) e) ∙ (or_zero 0 piece none).1 j
]

pub word_zero : (xs : List ℕ) (i : ℕ) → get_or xs i 0 ≡ 0 → AreZero i xs → AreZero (i + 1) xs
word_zero xs i none so_far k l = elim (cases_eq k i) [
  | inl e ↦ ap (λ n. get_or xs n 0) e ∙ none
  | inr apart ↦ so_far k (omega (arith, apart))
]
