-- The elements of words, and what becomes of them.
use Rattle.std.proofs.Common.{◌≡◌, ◌≢◌, ◌↔◌, ℕ, zero, suc, Bool, IsTrue, subst, take, drop, ◌++◌, ◌+◌, ◌*◌, ◌/◌, ◌%◌, ◌^◌, ◌<◌, inl, inr}
use Rattle.std.proofs.Common.{List, [], ◌∷◌, length, get_or, replicate, refl, sym, ap, ap₂, ◌∙◌, arith}
use Rattle.std.specs.Int.{bit_at}
use Rattle.std.specs.Int.Bits.{bit_xor}
use Rattle.std.proofs.Math.ListN.{set}
use Rattle.std.proofs.Math.Nat.{pow-suc}
use Rattle.std.proofs.lemmas.Bool.{cases_lt, cases_eq}
use Rattle.std.proofs.lemmas.List.{ext_get_or, get_or-map, get_or-replicate, get_or_past, get_or-set_same, get_or-set_other, length-map}
use Rattle.std.proofs.lemmas.List.{length-set, length-replicate}
use Rattle.std.proofs.lemmas.List.FromFn.{get_or-map-range_with_len, length-map-range_with_len}
use Rattle.std.proofs.lemmas.Grind.{get_or_default_zero}
use Rattle.std.proofs.lemmas.Nat.{one_shl}
use Rattle.std.proofs.lemmas.Nat.Bits.{bit_at-zero, bit_at-lt, bit_at-suc, bit_at_lowest, bit_at_xor, bit_at-pow_same, bit_at-pow_other}
use Rattle.linear_algebra.specs.Scalars.{Scalars}
use Rattle.linear_algebra.specs.Vectors.{vector_sum, multiple}
use Rattle.field_core.proofs.Loops.{length-vector_sum}
use Rattle.field_core.proofs.Refills.{refill_same}
use Rattle.small_fields.specs.Modular.{modulo}
use Rattle.packed_rows.specs.Packed.{element, elements, word_count, AreWords, ArePacked}
use Rattle.packed_rows.specs.Words.{AreAdded, AreZero}

-- ---- the list of the elements

pub length-elements : (ws : List ℕ) (n : ℕ) → length (elements ws n) ≡ n
length-elements ws n = length-map-range_with_len (element ws) 0 n

pub elements-at : (ws : List ℕ) (n i : ℕ) → i < n → get_or (elements ws n) i 0 ≡ element ws i
elements-at ws n i l = get_or-map-range_with_len (element ws) 0 n i i 0 l (omega arith)

-- how many there are, of the words that a vector is held in
pub count_is : (ws : List ℕ) (n : ℕ) (u : List ℕ) → elements ws n ≡ u → n ≡ length u
count_is ws n u e = sym (length-elements ws n) ∙ ap length e

-- a list is known by its elements
elements-are : (ws : List ℕ) (n : ℕ) (v : List ℕ) → length v ≡ n → ((i : ℕ) → i < n → element ws i ≡ get_or v i 0) → elements ws n ≡ v
elements-are ws n v e f =
    let long = length-elements ws n in
    ext_get_or 0 (elements ws n) v (long ∙ sym e) (λ i l. let k : i < n = omega (arith, long) in elements-at ws n i k ∙ f i k)

-- bit j of word w is element 64 w + j
pub element-of_word : (ws : List ℕ) (w j : ℕ) → j < 64 → element ws (64 * w + j) ≡ bit_at (get_or ws w 0) j
element-of_word ws w j l =
    let word : (64 * w + j) / 64 ≡ w = omega arith in
    let bit : (64 * w + j) % 64 ≡ j = omega arith in
    ap₂ (λ a b. bit_at (get_or ws a 0) b) word bit

-- ---- reads

pub place_within : (ws : List ℕ) (n : ℕ) (u : List ℕ) (i len : ℕ) → AreWords ws n → elements ws n ≡ u → i < length u → len ≡ length ws →
    i / 64 < len
place_within ws n u i len are e l ok =
    let c : length ws ≡ (n + 63) / 64 = are.count in
    omega (arith, c, count_is ws n u e, l, ok)

word-at : (ws : List ℕ) (k w : ℕ) → k < length ws → w ≡ get_or ws k w → w ≡ get_or ws k 0
word-at ws k w l is = is ∙ get_or_default_zero ws k w l

-- an element is the bit of the word that was read
pub bit_read : (ws : List ℕ) (n : ℕ) (u : List ℕ) (i w : ℕ) → AreWords ws n → elements ws n ≡ u → i < length u →
    w ≡ get_or ws (i / 64) w → bit_at w (i % 64) ≡ get_or u i 0
bit_read ws n u i w are e l is =
    let k : i < n = omega (arith, count_is ws n u e, l) in
    ap (λ x. bit_at x (i % 64)) (word-at ws (i / 64) w (place_within ws n u i (length ws) are e l refl) is) ∙ sym (elements-at ws n i k) ∙ ap (λ v. get_or v i 0) e

-- ---- zeros

-- that many zeros
abbrev zeros : ℕ → List ℕ
zeros n = replicate n 0

get_or-zeros : (m k : ℕ) → get_or (zeros m) k 0 ≡ 0
get_or-zeros m k =
    let o : ℕ = 0 in
    let long : length (replicate m o) ≡ m = length-replicate m o in
    elim (cases_lt k m) [
      | inl l ↦ get_or-replicate m k o o l
      | inr l ↦ get_or_past (replicate m o) k o (omega (arith, long))
    ]

-- where all words are zero
element-zero : (ws : List ℕ) → ((k : ℕ) → get_or ws k 0 ≡ 0) → (i : ℕ) → element ws i ≡ 0
element-zero ws z i = ap (λ w. bit_at w (i % 64)) (z (i / 64)) ∙ bit_at-zero (i % 64)

elements-zero : (ws : List ℕ) (n : ℕ) → ((k : ℕ) → get_or ws k 0 ≡ 0) → elements ws n ≡ replicate n 0
elements-zero ws n z = elements-are ws n (replicate n 0) (length-replicate n 0) (λ i l. element-zero ws z i ∙ sym (get_or-replicate n i 0 0 l))

pub zeros-elements : (m n : ℕ) → elements (replicate m 0) n ≡ replicate n 0
zeros-elements m n = elements-zero (replicate m 0) n (get_or-zeros m)

-- and that is what the words that `zeros` makes hold
pub zeros_held : (ws : List ℕ) (m n : ℕ) → ws ≡ replicate m 0 → elements ws n ≡ replicate n 0
zeros_held ws m n e = ap (λ w. elements w n) e ∙ zeros-elements m n

pub zeros-words : (m n : ℕ) → m ≡ word_count n → AreWords (replicate m 0) n
zeros-words m n e = record { count = length-replicate m 0 ∙ e; behind = λ i l. element-zero (replicate m 0) (get_or-zeros m) i }

-- a word with no bit is zero
no_bits : (k w : ℕ) → w < 2 ^ k → ((j : ℕ) → j < k → bit_at w j ≡ 0) → w ≡ 0
no_bits zero w l none = omega arith
no_bits (suc k) w l none =
    let half : w / 2 ≡ 0 = no_bits k (w / 2) (omega (arith, pow-suc 2 k)) (λ j m. sym (bit_at-suc w j) ∙ none (suc j) (omega arith)) in
    omega (arith, half, bit_at_lowest w, none 0 (omega arith))

-- words that fit 64 bits are zero exactly where they have no element that isn't
pub zero_by_elements : (ws : List ℕ) (b : Bool) → ((k : ℕ) → get_or ws k 0 < 2 ^ 64) → (IsTrue b ↔ AreZero (length ws) ws) →
    (IsTrue b ↔ ((i : ℕ) → element ws i ≡ 0))
zero_by_elements ws b fits h = (
  λ t. element-zero ws (λ k. elim (cases_lt k (length ws)) [
    | inl l ↦ h.0 t k l
    | inr l ↦ get_or_past ws k 0 l
  ]),
  λ each. h.1 (λ k l. no_bits 64 (get_or ws k 0) (fits k) (λ j m. sym (element-of_word ws k j m) ∙ each (64 * k + j))),
)

-- and so is the vector that they hold
pub zero_vector_by_elements : (ws lent : List ℕ) (n : ℕ) (u : List ℕ) (b : Bool) → AreWords ws n → elements ws n ≡ u → lent ≡ ws →
    (IsTrue b ↔ ((i : ℕ) → element lent i ≡ 0)) → (IsTrue b ↔ (u ≡ replicate (length u) 0))
zero_vector_by_elements ws lent n u b are e is h =
    let count : n ≡ length u = count_is ws n u e in
    let same : zeros n ≡ zeros (length u) = ap zeros count in (
      λ t. sym e ∙ elements-are ws n (replicate n 0) (length-replicate n 0) (λ i l. ap (λ w. element w i) (sym is) ∙ h.0 t i ∙ sym (get_or-zeros n i)) ∙ same,
      λ z. h.1 (λ i. ap (λ w. element w i) is ∙ (elim (cases_lt i n) [
        | inl l ↦ sym (elements-at ws n i l) ∙ ap (λ v. get_or v i 0) (e ∙ z) ∙ get_or-zeros (length u) i
        | inr l ↦ are.behind i l
      ])),
    )

-- ---- sums and multiples

get_or-vector_sum : (S : Scalars) (u v : List ℕ) (i : ℕ) → length u ≡ length v → i < length u →
    get_or (vector_sum S u v) i 0 ≡ S.sum (get_or u i 0) (get_or v i 0)
unfolding vector_sum
get_or-vector_sum S [] v i e l = absurd (omega arith)
get_or-vector_sum S (a ∷ u) [] i e l = absurd (omega arith)
get_or-vector_sum S (a ∷ u) (b ∷ v) zero e l = refl
get_or-vector_sum S (a ∷ u) (b ∷ v) (suc i) e l = get_or-vector_sum S u v i (omega arith) (omega arith)

pub multiple-zero : (v : List ℕ) → multiple (modulo 2) 0 v ≡ replicate (length v) 0
multiple-zero [] = refl
multiple-zero (a ∷ v) = let e : (0 * a) % 2 ≡ 0 = omega arith in ap₂ (λ x xs. x ∷ xs) e (multiple-zero v)

pub multiple-one : (ws : List ℕ) (n : ℕ) → multiple (modulo 2) 1 (elements ws n) ≡ elements ws n
multiple-one ws n =
    let v = elements ws n in
    let long = length-elements ws n in
    sym (elements-are ws n (multiple (modulo 2) 1 v) (length-map v (λ a. (1 * a) % 2) ∙ long)
    (λ i l.
    let at : get_or (multiple (modulo 2) 1 v) i 0 ≡ (1 * get_or v i 0) % 2 = get_or-map (λ a. (1 * a) % 2) v i 0 0 (omega (arith, long)) in
    omega (arith, at, elements-at ws n i l, bit_at-lt (get_or ws (i / 64) 0) (i % 64))))

-- a sum with zeros
pub sum_with_zeros : (ws : List ℕ) (n : ℕ) → elements ws n ≡ vector_sum (modulo 2) (elements ws n) (replicate n 0)
sum_with_zeros ws n =
    let v : List ℕ = elements ws n in
    let o : List ℕ = replicate n 0 in
    let long : length v ≡ n = length-elements ws n in
    let none : length o ≡ n = length-replicate n 0 in
    elements-are ws n (vector_sum (modulo 2) v o) (length-vector_sum (modulo 2) v o (long ∙ sym none) ∙ long)
    (λ i l.
    let at : get_or (vector_sum (modulo 2) v o) i 0 ≡ (get_or v i 0 + get_or o i 0) % 2 = get_or-vector_sum (modulo 2) v o i (long ∙ sym none) (omega (arith, long)) in
    let nothing : get_or o i 0 ≡ 0 = get_or-zeros n i in
    let small : element ws i < 2 = bit_at-lt (get_or ws (i / 64) 0) (i % 64) in
    omega (arith, at, elements-at ws n i l, nothing, small))

-- words that are added have the sums of the elements
module _ (n : ℕ) (xs ys zs : List ℕ) (added : AreAdded (length ys) xs ys zs) (same : length xs ≡ length ys) where
  word-sum : (k : ℕ) → get_or zs k 0 ≡ bit_xor (get_or xs k 0) (get_or ys k 0)
  word-sum k = elim (cases_lt k (length ys)) [
    | inl l ↦ added.front k l
    | inr l ↦ get_or_past zs k 0 (omega (arith, added.count, same, l)) ∙ sym (ap₂ bit_xor (get_or_past xs k 0 (omega (arith, same, l))) (get_or_past ys k 0 l))
  ]

  element-sum : (i : ℕ) → element zs i ≡ (element xs i + element ys i) % 2
  element-sum i = ap (λ w. bit_at w (i % 64)) (word-sum (i / 64)) ∙ bit_at_xor (get_or xs (i / 64) 0) (get_or ys (i / 64) 0) (i % 64)

  pub sum-words : AreWords xs n → AreWords ys n → AreWords zs n
  sum-words a b = record { count = added.count ∙ a.count; behind = λ i l. omega (arith, element-sum i, a.behind i l, b.behind i l) }

  pub sum-elements : elements zs n ≡ vector_sum (modulo 2) (elements xs n) (elements ys n)
  sum-elements =
      let u = elements xs n in
      let v = elements ys n in
      let long = length-elements xs n in
      let equal = long ∙ sym (length-elements ys n) in
      elements-are zs n (vector_sum (modulo 2) u v) (length-vector_sum (modulo 2) u v equal ∙ long)
      (λ i l.
      let at = get_or-vector_sum (modulo 2) u v i equal (omega (arith, long)) in
      element-sum i ∙ sym (at ∙ ap₂ (λ a b. (a + b) % 2) (elements-at xs n i l) (elements-at ys n i l)))

-- what `axpy` reads and writes: `old` and `source` are the words xs and ys, which hold u and v
module _ (xs ys : List ℕ) (n m : ℕ) (u v : List ℕ) (a : AreWords xs n) (b : AreWords ys m) (holds_u : elements xs n ≡ u) (holds_v : elements ys m ≡ v) (equal : length u ≡ length v) where
  same_count : n ≡ m
  same_count = count_is xs n u holds_u ∙ equal ∙ sym (count_is ys m v holds_v)

  same_length : length xs ≡ length ys
  same_length = a.count ∙ ap word_count same_count ∙ sym b.count

  pub same_lent : (old source : List ℕ) → old ≡ xs → source ≡ ys → length old ≡ length source
  same_lent old source is_old is_source = ap length is_old ∙ same_length ∙ sym (ap length is_source)

  module _ (old source zs : List ℕ) (len : ℕ) (is_old : old ≡ xs) (is_source : source ≡ ys) (ok : len ≡ length xs) (h : AreAdded (length source) old source zs) where
    added : AreAdded (length ys) xs ys zs
    added = subst (λ o. AreAdded (length ys) o ys zs) is_old (subst (λ s. AreAdded (length s) old s zs) is_source h)

    written : take len (zs ++ drop (length zs) xs) ≡ zs
    written = refill_same len xs zs (added.count ∙ sym ok)

    pub added-words : AreWords (take len (zs ++ drop (length zs) xs)) n
    added-words = subst (λ w. AreWords w n) (sym written) (sum-words n xs ys zs added same_length a (subst (AreWords ys) (sym same_count) b))

    pub added-elements : (f : ℕ) → f ≡ 1 →
        elements (take len (zs ++ drop (length zs) xs)) n ≡ vector_sum (modulo 2) u (multiple (modulo 2) f v)
    added-elements f one =
        let product : elements ys n ≡ multiple (modulo 2) f v =
        sym (multiple-one ys n) ∙ ap₂ (multiple (modulo 2)) (sym one) (ap (elements ys) same_count ∙ holds_v) in
        ap (λ w. elements w n) written ∙ sum-elements n xs ys zs added same_length ∙ ap₂ (vector_sum (modulo 2)) holds_u product

-- zero times another vector
pub none_added : (ws : List ℕ) (n : ℕ) (u v : List ℕ) (f : ℕ) → elements ws n ≡ u → length u ≡ length v → f ≡ 0 →
    u ≡ vector_sum (modulo 2) u (multiple (modulo 2) f v)
none_added ws n u v f e equal none =
    let vanishes : multiple (modulo 2) f v ≡ zeros n =
    ap (λ c. multiple (modulo 2) c v) none ∙ multiple-zero v ∙ ap zeros (sym (count_is ws n u e ∙ equal)) in
    sym e ∙ sum_with_zeros ws n ∙ ap₂ (vector_sum (modulo 2)) e (sym vanishes)

pub cleared : (ws : List ℕ) (len n : ℕ) (u : List ℕ) (f : ℕ) → ws ≡ replicate len 0 → n ≡ length u → f ≡ 0 →
    elements ws n ≡ multiple (modulo 2) f u
cleared ws len n u f e count none =
    ap (λ w. elements w n) e ∙ zeros-elements len n ∙ ap zeros count ∙ sym (ap (λ c. multiple (modulo 2) c u) none ∙ multiple-zero u)

pub kept : (ws : List ℕ) (n : ℕ) (u : List ℕ) (f : ℕ) → elements ws n ≡ u → f ≡ 1 → u ≡ multiple (modulo 2) f u
kept ws n u f e one = sym e ∙ sym (multiple-one ws n) ∙ ap₂ (multiple (modulo 2)) (sym one) e

-- ---- one element is replaced

module _ (n i : ℕ) (ws : List ℕ) (are : AreWords ws n) (within : i < n) where
  -- the words where element i is turned
  abbrev pub turned : List ℕ
  turned = set ws (i / 64) (bit_xor (get_or ws (i / 64) 0) (2 ^ (i % 64)))

  word_within : i / 64 < length ws
  word_within = let c : length ws ≡ (n + 63) / 64 = are.count in omega (arith, c)

  element-turned : element turned i ≡ (element ws i + 1) % 2
  element-turned =
      let w = get_or ws (i / 64) 0 in
      ap (λ x. bit_at x (i % 64)) (get_or-set_same ws (i / 64) (bit_xor w (2 ^ (i % 64))) 0 word_within)
      ∙ bit_at_xor w (2 ^ (i % 64)) (i % 64) ∙ ap (λ b. (bit_at w (i % 64) + b) % 2) (bit_at-pow_same (i % 64))

  element-other : (k : ℕ) → k ≢ i → element turned k ≡ element ws k
  element-other k apart =
      let w = get_or ws (i / 64) 0 in
      elim (cases_eq (k / 64) (i / 64)) [
        | inl e ↦
            let bits : k % 64 ≢ i % 64 = λ f. apart (omega arith) in
            let sum : bit_at (bit_xor w (2 ^ (i % 64))) (k % 64) ≡ bit_at w (k % 64) =
            omega (arith, bit_at_xor w (2 ^ (i % 64)) (k % 64), bit_at-pow_other (i % 64) (k % 64) bits, bit_at-lt w (k % 64)) in
            ap (λ m. bit_at (get_or turned m 0) (k % 64)) e ∙ ap (λ x. bit_at x (k % 64)) (get_or-set_same ws (i / 64) (bit_xor w (2 ^ (i % 64))) 0 word_within)
            ∙ sum ∙ ap (λ m. bit_at (get_or ws m 0) (k % 64)) (sym e)
        | inr e ↦ ap (λ x. bit_at x (k % 64)) (get_or-set_other ws (i / 64) (k / 64) (bit_xor w (2 ^ (i % 64))) 0 e)
      ]

  pub turned-words : AreWords turned n
  turned-words = record {
    count = length-set ws (i / 64) (bit_xor (get_or ws (i / 64) 0) (2 ^ (i % 64))) ∙ are.count;
    behind = λ k l. element-other k (omega arith) ∙ are.behind k l;
  }

  pub turned-elements : (b : ℕ) → b < 2 → element ws i ≢ b → elements turned n ≡ set (elements ws n) i b
  turned-elements b small differs =
      let v = elements ws n in
      let long = length-elements ws n in
      let turn : element turned i ≡ b = omega (arith, element-turned, bit_at-lt (get_or ws (i / 64) 0) (i % 64), differs) in
      elements-are turned n (set v i b) (length-set v i b ∙ long)
      (λ k l. elim (cases_eq k i) [
        | inl e ↦ ap (element turned) e ∙ turn ∙ sym (ap (λ m. get_or (set v i b) m 0) e ∙ get_or-set_same v i b 0 (omega (arith, long)))
        | inr e ↦ element-other k e ∙ sym (get_or-set_other v i k b 0 e ∙ elements-at ws n k l)
      ])

-- what `put` writes: w is the word that it read
module _ (ws : List ℕ) (n : ℕ) (u : List ℕ) (i w : ℕ) (are : AreWords ws n) (e : elements ws n ≡ u) (l : i < length u) (is : w ≡ get_or ws (i / 64) w) where
  within_words : i < n
  within_words = omega (arith, count_is ws n u e, l)

  -- the word where the bit is turned
  abbrev pub flipped : ℕ
  flipped = bit_xor w (1 * 2 ^ (i % 64) % 18446744073709551616)

  flipped_is : flipped ≡ bit_xor (get_or ws (i / 64) 0) (2 ^ (i % 64))
  flipped_is = ap₂ bit_xor (word-at ws (i / 64) w (place_within ws n u i (length ws) are e l refl) is) (one_shl (i % 64) 64 (omega arith))

  pub flipped-words : AreWords (set ws (i / 64) flipped) n
  flipped-words = subst (λ x. AreWords (set ws (i / 64) x) n) (sym flipped_is) (turned-words n i ws are within_words)

  pub flipped-elements : (b : ℕ) → b < 2 → get_or u i 0 ≢ b → elements (set ws (i / 64) flipped) n ≡ set u i b
  flipped-elements b small differs =
      let at : element ws i ≡ get_or u i 0 = sym (elements-at ws n i within_words) ∙ ap (λ v. get_or v i 0) e in
      ap (λ x. elements (set ws (i / 64) x) n) flipped_is ∙ turned-elements n i ws are within_words b small (λ same. differs (sym at ∙ same)) ∙ ap (λ v. set v i b) e

-- ---- the words that are lent

pub elements-packed : (ws : List ℕ) (n : ℕ) → AreWords ws n → ArePacked (elements ws n) ws
elements-packed ws n are =
    let long = length-elements ws n in
    record {
      count = are.count ∙ ap word_count (sym long);
      bits = λ w j l m.
          let at = element-of_word ws w j m in (
            λ one. elim (cases_lt (64 * w + j) n) [
              | inl k ↦ (omega (arith, long), elements-at ws n (64 * w + j) k ∙ at ∙ one)
              | inr k ↦ absurd (omega (arith, are.behind (64 * w + j) k, at, one))
            ],
            λ both. sym at ∙ sym (elements-at ws n (64 * w + j) (omega (arith, long, both.0))) ∙ both.1,
          );
    }

pub lent_packed : (ws lent : List ℕ) (n : ℕ) (u : List ℕ) → AreWords ws n → elements ws n ≡ u → lent ≡ ws → ArePacked u lent
lent_packed ws lent n u are e is = subst (ArePacked u) (sym is) (subst (λ v. ArePacked v ws) e (elements-packed ws n are))
