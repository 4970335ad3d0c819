-- The combination of the vectors of lines, line after line.
use Rattle.std.proofs.Common.{◌≡◌, ℕ, ◌+◌, ◌*◌, ◌<◌, List, [], ◌∷◌, ◌++◌, All, length, map, get_or, take, refl, sym, ap, ap₂, ◌∙◌, arith, append_assoc}
use Rattle.std.proofs.lemmas.List.{take_more, length-take-le}
use Rattle.std.proofs.lemmas.List.Elements.{All-nil, All-cons, All-take, All-get_or}
use Rattle.field_core.proofs.Values.{vector_of_values}
use Rattle.linear_algebra.specs.Scalars.{Scalars, IsScalar, IsField}
use Rattle.linear_algebra.specs.Spans.{combination}
use Rattle.linear_algebra.specs.Vectors.{IsVector, AreVectors, zero_vector, vector_sum, multiple}
use Rattle.linear_algebra.proofs.Combinations.{combination-vector, combination-append}
use Rattle.linear_algebra.proofs.VectorLaws.{multiple-vector, vector_sum-vector, vector_sum_assoc, vector_sum-zero}
use Rattle.matching_state.proofs.Products.{entry_read}
use Rattle.parity_lines.proofs.Border.{vectors_at-vectors}
use Rattle.parity_lines.proofs.IndependentLines.{vectors_at-append, length-vectors_at}
use Rattle.parity_lines.proofs.LinePairs.{line_at_vectors}
use Rattle.parity_lines.specs.Problems.{ParityProblem, IsProblem, line_at, vectors_at}

combination-none : (S : Scalars) (d : ℕ) (vs : List (List ℕ)) → combination S d [] vs ≡ zero_vector S d
unfolding combination
combination-none S d vs = refl

-- n is the dimension
pub sum_none : (S : Scalars) (d n : ℕ) (vs : List (List ℕ)) (sum : List ℕ) → sum ≡ zero_vector S n → n ≡ d → sum ≡ combination S d [] vs
sum_none S d n vs sum e is = e ∙ ap (zero_vector S) is ∙ sym (combination-none S d vs)

-- two entries more
take_two : (cs : List ℕ) (i : ℕ) → 2 * i + 1 < length cs → take (2 * (i + 1)) cs ≡ take (2 * i) cs ++ get_or cs (2 * i) 0 ∷ get_or cs (2 * i + 1) 0 ∷ []
take_two cs i h =
    let e : 2 * (i + 1) ≡ 2 * i + 1 + 1 = omega arith in
    ap (λ n. take n cs) e ∙ take_more cs (2 * i + 1) 0 h
    ∙ ap (λ xs. xs ++ get_or cs (2 * i + 1) 0 ∷ []) (take_more cs (2 * i) 0 (omega arith))
    ∙ append_assoc (take (2 * i) cs) (get_or cs (2 * i) 0 ∷ []) (get_or cs (2 * i + 1) 0 ∷ [])

module _ (S : Scalars) (F : IsField S) (p : ParityProblem) (P : IsProblem S p) (M : List ℕ) (within : All (λ m. m < length p.lines) M)
    (cs : List ℕ) (c : IsVector S (2 * length M) cs) (i : ℕ) (h : i < length M) where
  abbrev d : ℕ
  d = p.dimension

  -- the combination for the first i lines
  abbrev before : List ℕ
  before = combination S d (take (2 * i) cs) (vectors_at p (take i M))

  front : AreVectors S d (vectors_at p (take i M))
  front = vectors_at-vectors S p P (take i M) (All-take (λ m. m < length p.lines) i M within)

  entries : All (IsScalar S) (take (2 * i) cs)
  entries = All-take (IsScalar S) (2 * i) cs c.entries

  pub before-vector : IsVector S d before
  before-vector = combination-vector S F d (take (2 * i) cs) (vectors_at p (take i M)) entries front

  -- and the line at index i
  abbrev m : ℕ
  m = get_or M i 0

  line : IsVector S d (line_at p m).0 × IsVector S d (line_at p m).1
  line = line_at_vectors S p m P (All-get_or (λ k. k < length p.lines) M i 0 h within)

  abbrev a : ℕ
  a = get_or cs (2 * i) 0

  abbrev b : ℕ
  b = get_or cs (2 * i + 1) 0

  a_in : IsScalar S a
  a_in = All-get_or (IsScalar S) cs (2 * i) 0 (let l = c.length_is in omega arith) c.entries

  b_in : IsScalar S b
  b_in = All-get_or (IsScalar S) cs (2 * i + 1) 0 (let l = c.length_is in omega arith) c.entries

  first_part : IsVector S d (multiple S a (line_at p m).0)
  first_part = multiple-vector S F d a (line_at p m).0 a_in line.0

  second_part : IsVector S d (multiple S b (line_at p m).1)
  second_part = multiple-vector S F d b (line_at p m).1 b_in line.1

  pub half-vector : IsVector S d (vector_sum S before (multiple S a (line_at p m).0))
  half-vector = vector_sum-vector S F d before (multiple S a (line_at p m).0) before-vector first_part

  two : combination S d (a ∷ b ∷ []) ((line_at p m).0 ∷ (line_at p m).1 ∷ []) ≡ vector_sum S (multiple S a (line_at p m).0) (multiple S b (line_at p m).1)
  unfolding combination
  two = ap (vector_sum S (multiple S a (line_at p m).0)) (vector_sum-zero S F d (multiple S b (line_at p m).1) second_part)

  vectors_more : vectors_at p (take (i + 1) M) ≡ vectors_at p (take i M) ++ (line_at p m).0 ∷ (line_at p m).1 ∷ []
  unfolding vectors_at
  vectors_more = ap (vectors_at p) (take_more M i 0 h) ∙ vectors_at-append p (take i M) (m ∷ [])

  line_more : vector_sum S (vector_sum S before (multiple S a (line_at p m).0)) (multiple S b (line_at p m).1) ≡
      combination S d (take (2 * (i + 1)) cs) (vectors_at p (take (i + 1) M))
  line_more = vector_sum_assoc S F d before (multiple S a (line_at p m).0) (multiple S b (line_at p m).1) before-vector first_part second_part
      ∙ ap (vector_sum S before) (sym two)
      ∙ sym (combination-append S F d (take (2 * i) cs) (a ∷ b ∷ []) (vectors_at p (take i M)) ((line_at p m).0 ∷ (line_at p m).1 ∷ [])
      (record {
        length_is = length-take-le (2 * i) cs (let l = c.length_is in omega arith) ∙ sym (length-vectors_at p (take i M) ∙ ap (λ n. 2 * n) (length-take-le i M (omega arith)));
        entries = entries;
      })
      (All-cons (IsScalar S) a (b ∷ []) a_in (All-cons (IsScalar S) b [] b_in (All-nil (IsScalar S)))) front
      (All-cons (IsVector S d) (line_at p m).0 ((line_at p m).1 ∷ []) line.0 (All-cons (IsVector S d) (line_at p m).1 [] line.1 (All-nil (IsVector S d)))))
      ∙ ap₂ (combination S d) (sym (take_two cs i (let l = c.length_is in omega arith))) (sym vectors_more)

  -- the sums that the loop makes
  pub half_sum : (sum half u : List ℕ) (x : ℕ) → sum ≡ before → x ≡ a → u ≡ (line_at p m).0 → half ≡ vector_sum S sum (multiple S x u) →
      half ≡ vector_sum S before (multiple S a (line_at p m).0)
  half_sum sum half u x e q r k = k ∙ ap₂ (vector_sum S) e (ap₂ (multiple S) q r)

  pub whole_sum : (half whole v : List ℕ) (y : ℕ) → half ≡ vector_sum S before (multiple S a (line_at p m).0) → y ≡ b → v ≡ (line_at p m).1 →
      whole ≡ vector_sum S half (multiple S y v) → whole ≡ combination S d (take (2 * (i + 1)) cs) (vectors_at p (take (i + 1) M))
  whole_sum half whole v y e q r k = k ∙ ap₂ (vector_sum S) e (ap₂ (multiple S) q r) ∙ line_more

-- the same of values: n is the line at i, and u and v are what is seen of its vectors
module _ (S : Scalars) (F : IsField S) (p : ParityProblem) (P : IsProblem S p) (M : List ℕ) (within : All (λ m. m < length p.lines) M)
    {X : Type 0} (f : X → ℕ) (scalar : (x : X) → IsScalar S (f x)) (xs : List X)
    (long : length xs ≡ 2 * length M) (i : ℕ) (h : i < length M) where
  pub numbers : IsVector S (2 * length M) (map f xs)
  numbers = vector_of_values S f scalar xs (2 * length M) long

  abbrev sum_before : List ℕ
  sum_before = before S F p P M within (map f xs) numbers i h

  abbrev with_first : List ℕ
  with_first = vector_sum S sum_before (multiple S (get_or (map f xs) (2 * i) 0) (line_at p (get_or M i 0)).0)

  pub first_fits : {Y : Type 0} (sum : List ℕ) (u : List Y) → sum ≡ sum_before → length u ≡ p.dimension → length u ≡ length sum
  first_fits sum u e k = k ∙ sym (ap length e ∙ (before-vector S F p P M within (map f xs) numbers i h).length_is)

  pub half_made : (sum half u : List ℕ) (x : X) (n : ℕ) → sum ≡ sum_before → x ≡ get_or xs (2 * i) x → u ≡ (line_at p n).0 →
      n ≡ get_or M i 0 → half ≡ vector_sum S sum (multiple S (f x) u) → half ≡ with_first
  half_made sum half u x n e is_x is_u is_n k =
      half_sum S F p P M within (map f xs) numbers i h sum half u (f x) e (sym (entry_read f xs (2 * i) x (omega arith) is_x))
      (is_u ∙ ap (λ (m : ℕ). (line_at p m).0) is_n) k

  pub second_fits : {Y : Type 0} (half : List ℕ) (v : List Y) → half ≡ with_first → length v ≡ p.dimension → length v ≡ length half
  second_fits half v e k = k ∙ sym (ap length e ∙ (half-vector S F p P M within (map f xs) numbers i h).length_is)

  pub whole_made : (half whole v : List ℕ) (y : X) (n : ℕ) → half ≡ with_first → y ≡ get_or xs (2 * i + 1) y → v ≡ (line_at p n).1 →
      n ≡ get_or M i 0 → whole ≡ vector_sum S half (multiple S (f y) v) →
      whole ≡ combination S p.dimension (take (2 * (i + 1)) (map f xs)) (vectors_at p (take (i + 1) M))
  whole_made half whole v y n e is_y is_v is_n k =
      whole_sum S F p P M within (map f xs) numbers i h half whole v (f y) e (sym (entry_read f xs (2 * i + 1) y (omega arith) is_y))
      (is_v ∙ ap (λ (m : ℕ). (line_at p m).1) is_n) k
