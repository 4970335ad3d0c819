-- What the coordinates behind M's vectors, over the basis of a state, tell of the span of M's vectors.
use Rattle.std.proofs.Common.{◌≡◌, ◌≢◌, ℕ, zero, suc, ◌+◌, ◌-◌, ◌*◌, ◌<◌, ◌≤◌, List, [], ◌∷◌, ◌++◌, length, take, drop, get_or, refl, sym, ap, ap₂, ◌∙◌, subst, arith, All}
use Rattle.std.proofs.lemmas.List.{length-append, length-map, length-drop, length-replicate, get_or_append_left, get_or-drop, get_or-map, get_or-replicate, drop_at, drop-map}
use Rattle.std.proofs.lemmas.List.Elements.{All-head, All-tail}
use Rattle.coordinates.proofs.IndependentTails.{combines_sum, combines_multiple, drop-vector_sum}
use Rattle.coordinates.proofs.Tails.{drop_vector, front_combines, front_of_zero_tail, zero_tail_of_front}
use Rattle.coordinates.proofs.Units.{zeros-sum}
use Rattle.echelon.proofs.Entries.{entry-sum}
use Rattle.linear_algebra.specs.Scalars.{Scalars, IsScalar, IsField}
use Rattle.linear_algebra.specs.Spans.{Combines, InSpan}
use Rattle.linear_algebra.specs.Vectors.{IsVector, AreVectors, zero_vector, vector_sum, multiple}
use Rattle.linear_algebra.proofs.Coordinates.{IsVector-head, IsVector-tail}
use Rattle.linear_algebra.proofs.Elements.{product-zero}
use Rattle.linear_algebra.proofs.IndependenceLaws.{unique_coefficients}
use Rattle.linear_algebra.proofs.VectorLaws.{multiple-vector}
use Rattle.matching_state.specs.Bases.{IsKept}
use Rattle.matching_state.specs.Chosen.{Chosen}
use Rattle.matching_state.specs.LinePlaces.{InSet}
use Rattle.matching_state.proofs.Kept.{combined_vector, front_within}
use Rattle.parity_lines.proofs.IndependentLines.{length-vectors_at}
use Rattle.parity_lines.specs.Problems.{ParityProblem, vectors_at}

-- all entries of cs from k on are zero
abbrev pub IsZeroFrom : Scalars → ℕ → List ℕ → Type 0
IsZeroFrom S k cs = (i : ℕ) → k ≤ i → i < length cs → get_or cs i 0 ≡ S.zero

all_zero : (S : Scalars) (cs : List ℕ) → ((i : ℕ) → i < length cs → get_or cs i 0 ≡ S.zero) → cs ≡ zero_vector S (length cs)
all_zero S [] h = refl
all_zero S (c ∷ cs) h = ap₂ (λ x xs. x ∷ xs) (h 0 (omega arith)) (all_zero S cs (λ i l. h (suc i) (omega arith)))

pub zero_tail : (S : Scalars) (k : ℕ) (cs : List ℕ) → IsZeroFrom S k cs → drop k cs ≡ zero_vector S (length cs - k)
zero_tail S zero cs h = let e : length cs ≡ length cs - zero = omega arith in all_zero S cs (λ i l. h i (omega arith) l) ∙ ap (zero_vector S) e
zero_tail S (suc k) [] h = let e : 0 ≡ 0 - suc k = omega arith in ap (zero_vector S) e
zero_tail S (suc k) (c ∷ cs) h =
    let e : suc (length cs) - suc k ≡ length cs - k = omega arith in
    zero_tail S k cs (λ i l m. h (suc i) (omega arith) (omega arith)) ∙ ap (zero_vector S) (sym e)

pub zero_in_tail : (S : Scalars) (k n i : ℕ) (cs : List ℕ) → drop k cs ≡ zero_vector S n → k ≤ i → i < length cs → get_or cs i 0 ≡ S.zero
zero_in_tail S k n i cs e l m =
    let j : k + (i - k) ≡ i = omega arith in
    let long = length-drop k cs in
    let same = ap length e in
    let zeros = length-replicate n S.zero in
    ap (λ t. get_or cs t 0) (sym j) ∙ sym (get_or-drop k cs (i - k) 0) ∙ ap (λ t. get_or t (i - k) 0) e ∙ get_or-replicate n (i - k) S.zero 0 (omega arith)

module _ (S : Scalars) (F : IsField S) where
  -- b times y is the negative of c times y
  cancelled : (b c y : ℕ) → IsScalar S b → IsScalar S c → IsScalar S y → S.sum c b ≡ S.zero → S.sum (S.product c y) (S.product b y) ≡ S.zero
  cancelled b c y hb hc hy z =
      ap₂ S.sum (F.product_comm c y hc hy) (F.product_comm b y hb hy) ∙ sym (F.product-sum y c b hy hc hb) ∙ ap (S.product y) z ∙ product-zero S F y hy

  pub sums_to_zero : (b c : ℕ) (t : List ℕ) → IsScalar S b → IsScalar S c → S.sum c b ≡ S.zero → All (IsScalar S) t → vector_sum S (multiple S c t) (multiple S b t) ≡ zero_vector S (length t)
  unfolding vector_sum
  sums_to_zero b c [] hb hc z h = refl
  sums_to_zero b c (y ∷ t) hb hc z h =
      ap₂ (λ x xs. x ∷ xs) (cancelled b c y hb hc (All-head (IsScalar S) y t h) z) (sums_to_zero b c t hb hc z (All-tail (IsScalar S) y t h))

  -- what is taken away and put back
  pub put_back : (d b c : ℕ) (u v : List ℕ) → IsScalar S b → IsScalar S c → S.sum c b ≡ S.zero → IsVector S d u → IsVector S d v →
      vector_sum S (vector_sum S v (multiple S b u)) (multiple S c u) ≡ v
  unfolding vector_sum
  put_back zero b c [] [] hb hc z h k = refl
  put_back zero b c [] (x ∷ v) hb hc z h k = absurd (let e = k.length_is in omega arith)
  put_back zero b c (y ∷ u) v hb hc z h k = absurd (let e = h.length_is in omega arith)
  put_back (suc d) b c [] v hb hc z h k = absurd (let e = h.length_is in omega arith)
  put_back (suc d) b c (y ∷ u) [] hb hc z h k = absurd (let e = k.length_is in omega arith)
  put_back (suc d) b c (y ∷ u) (x ∷ v) hb hc z h k =
      let y_in = IsVector-head S d y u h in
      let x_in = IsVector-head S d x v k in
      let by = F.product_in b y hb y_in in
      let cy = F.product_in c y hc y_in in
      ap₂ (λ t ts. t ∷ ts)
      (F.sum_assoc x (S.product b y) (S.product c y) x_in by cy ∙ ap (S.sum x) (F.sum_comm (S.product b y) (S.product c y) by cy ∙ cancelled b c y hb hc y_in z) ∙ F.sum-zero x x_in)
      (put_back d b c u v hb hc z (IsVector-tail S d y u h) (IsVector-tail S d x v k))

  -- a summand that both sums have
  pub sum_cancel : (a b x : ℕ) → IsScalar S a → IsScalar S b → IsScalar S x → S.sum a x ≡ S.sum b x → a ≡ b
  sum_cancel a b x ha hb hx e =
      let n = F.negative x hx in
      sym (F.sum-zero a ha) ∙ ap (S.sum a) (sym n.2) ∙ sym (F.sum_assoc a x n.0 ha hx n.1) ∙ ap (λ t. S.sum t n.0) e ∙ F.sum_assoc b x n.0 hb hx n.1 ∙ ap (S.sum b) n.2 ∙ F.sum-zero b hb

module _ (S : Scalars) (F : IsField S) (state : Chosen) (K : IsKept S state) where
  abbrev p : ParityProblem
  p = state.problem

  abbrev d : ℕ
  d = p.dimension

  abbrev B : List (List ℕ)
  B = state.basis

  abbrev k : ℕ
  k = 2 * length state.set

  basis_vectors : AreVectors S d B
  basis_vectors = K.listed.is_basis.vectors

  front : k ≤ length B
  front = front_within S F state K

  module _ (cu u : List ℕ) (a : Combines S d B cu u) where
    -- where the tail is zero, what stands in front combines M's vectors
    pub front_combined : IsZeroFrom S k cu → Combines S d (vectors_at p state.set) (take k cu) u
    front_combined z = subst (λ vs. Combines S d vs (take k cu) u) K.listed.begins
        (front_of_zero_tail S F d B basis_vectors k front cu u a (zero_tail S k cu z ∙ ap (λ n. zero_vector S (n - k)) a.one_each.length_is))

    pub inside_of_tail : IsZeroFrom S k cu → InSet S p state.set u
    inside_of_tail z = record { coefficients = take k cu; combine = front_combined z }

    tail_of_inside : InSet S p state.set u → drop k cu ≡ zero_vector S (length B - k)
    tail_of_inside s = zero_tail_of_front S F d B basis_vectors k front K.listed.is_basis.independent cu u a (subst (λ vs. InSpan S d vs u) (sym K.listed.begins) s)

    pub outside_of_tail : (i : ℕ) → k ≤ i → i < length cu → get_or cu i 0 ≢ S.zero → ¬ (InSet S p state.set u)
    outside_of_tail i l m n s = n (zero_in_tail S k (length B - k) i cu (tail_of_inside s) l m)

    module _ (cv v : List ℕ) (b : Combines S d B cv v) (c : ℕ) (hc : IsScalar S c) where
      abbrev whole : List ℕ → List ℕ
      whole es = es ++ zero_vector S (length B - k)

      -- where v is c times u and r, of the span of M's vectors, its coordinates are
      coordinates_of_sum : (es r : List ℕ) → Combines S d (vectors_at p state.set) es r → vector_sum S r (multiple S c u) ≡ v → cv ≡ vector_sum S (whole es) (multiple S c cu)
      coordinates_of_sum es r s e =
          let front_is : Combines S d B (whole es) r = front_combines S F d B basis_vectors k front es r (subst (λ vs. Combines S d vs es r) (sym K.listed.begins) s) in
          unique_coefficients S F d B v cv (vector_sum S (whole es) (multiple S c cu)) basis_vectors K.listed.is_basis.independent b
          (subst (Combines S d B (vector_sum S (whole es) (multiple S c cu))) e (combines_sum S F d B basis_vectors (whole es) (multiple S c cu) r (multiple S c u) front_is (combines_multiple S F d B basis_vectors c cu u hc a)))

      in_front : (es r : List ℕ) → Combines S d (vectors_at p state.set) es r → length es ≡ k
      in_front es r s = s.one_each.length_is ∙ length-vectors_at p state.set

      tail_vector : IsVector S (length B - k) (multiple S c (drop k cu))
      tail_vector = multiple-vector S F (length B - k) c (drop k cu) hc (drop_vector S F (length B) k cu a.one_each)

      -- so its tail is c times that of u
      pub tail_of_sum : (r : List ℕ) → InSet S p state.set r → vector_sum S r (multiple S c u) ≡ v → drop k cv ≡ multiple S c (drop k cu)
      tail_of_sum r s e =
          let es = s.coefficients in
          ap (drop k) (coordinates_of_sum es r s.combine e)
          ∙ drop-vector_sum S k (whole es) (multiple S c cu)
          ∙ ap₂ (vector_sum S) (drop_at es (zero_vector S (length B - k)) k (in_front es r s.combine)) (drop-map (λ t. S.product c t) k cu)
          ∙ zeros-sum S F (length B - k) (multiple S c (drop k cu)) tail_vector

      -- and entry by entry in front
      pub entry_of_sum : (es r : List ℕ) → Combines S d (vectors_at p state.set) es r → vector_sum S r (multiple S c u) ≡ v → (j : ℕ) → j < k →
          S.sum (get_or es j 0) (S.product c (get_or cu j 0)) ≡ get_or cv j 0
      entry_of_sum es r s e j h =
          let long = in_front es r s in
          let zeros = zero_vector S (length B - k) in
          let whole_long = length-append es zeros in
          let cu_long = a.one_each.length_is in
          let multiple_long = length-map cu (λ t. S.product c t) in
          let room = front in
          sym (ap (λ t. get_or t j 0) (coordinates_of_sum es r s e)
          ∙ entry-sum S (whole es) (multiple S c cu) j (omega arith) (omega arith)
          ∙ ap₂ S.sum (get_or_append_left es zeros 0 j (omega arith)) (get_or-map (λ t. S.product c t) cu j 0 0 (omega arith)))

      -- where the tail of v is c times that of u, v is c times u and a vector of the span
      pub rest_of_tails : drop k cv ≡ multiple S c (drop k cu) → (r : List ℕ) × InSet S p state.set r × (vector_sum S r (multiple S c u) ≡ v)
      rest_of_tails e =
          let n = F.negative c hc in
          let u_in = combined_vector S F state K cu u a in
          let v_in = combined_vector S F state K cv v b in
          let es = vector_sum S cv (multiple S n.0 cu) in
          let r = vector_sum S v (multiple S n.0 u) in
          let combines : Combines S d B es r = combines_sum S F d B basis_vectors cv (multiple S n.0 cu) v (multiple S n.0 u) b (combines_multiple S F d B basis_vectors n.0 cu u n.1 a) in
          let t = drop k cu in
          let tail : drop k es ≡ zero_vector S (length t) =
          drop-vector_sum S k cv (multiple S n.0 cu) ∙ ap₂ (vector_sum S) e (drop-map (λ x. S.product n.0 x) k cu)
          ∙ sums_to_zero S F n.0 c t n.1 hc n.2 (drop_vector S F (length B) k cu a.one_each).entries in (
            r,
            subst (λ vs. InSpan S d vs r) K.listed.begins (record {
              coefficients = take k es;
              combine = front_of_zero_tail S F d B basis_vectors k front es r combines
                  (tail ∙ ap (zero_vector S) (drop_vector S F (length B) k cu a.one_each).length_is);
            }),
            put_back S F d n.0 c u v n.1 hc n.2 u_in v_in,
          )

-- a multiple from k on, entry by entry
multiple_of_all : (S : Scalars) (c : ℕ) (cs ds : List ℕ) → length ds ≡ length cs → ((j : ℕ) → j < length cs → get_or ds j 0 ≡ S.product c (get_or cs j 0)) → ds ≡ multiple S c cs
multiple_of_all S c [] [] e h = refl
multiple_of_all S c [] (d ∷ ds) e h = absurd (omega arith)
multiple_of_all S c (a ∷ cs) [] e h = absurd (omega arith)
multiple_of_all S c (a ∷ cs) (d ∷ ds) e h = ap₂ (λ x xs. x ∷ xs) (h 0 (omega arith)) (multiple_of_all S c cs ds (omega arith) (λ j l. h (suc j) (omega arith)))

pub multiple_by_entries : (S : Scalars) (c k : ℕ) (cs ds : List ℕ) → length ds ≡ length cs → ((j : ℕ) → k ≤ j → j < length cs → get_or ds j 0 ≡ S.product c (get_or cs j 0)) → drop k ds ≡ multiple S c (drop k cs)
multiple_by_entries S c zero cs ds e h = multiple_of_all S c cs ds e (λ j l. h j (omega arith) l)
multiple_by_entries S c (suc k) [] [] e h = refl
multiple_by_entries S c (suc k) [] (d ∷ ds) e h = absurd (omega arith)
multiple_by_entries S c (suc k) (a ∷ cs) [] e h = absurd (omega arith)
multiple_by_entries S c (suc k) (a ∷ cs) (d ∷ ds) e h = multiple_by_entries S c k cs ds (omega arith) (λ j l m. h (suc j) (omega arith) (omega arith))

pub entries_of_multiple : (S : Scalars) (c k : ℕ) (cs ds : List ℕ) → drop k ds ≡ multiple S c (drop k cs) → (j : ℕ) → k ≤ j → j < length cs → get_or ds j 0 ≡ S.product c (get_or cs j 0)
entries_of_multiple S c k cs ds e j l h =
    let at : k + (j - k) ≡ j = omega arith in
    let long = length-drop k cs in
    ap (λ t. get_or ds t 0) (sym at) ∙ sym (get_or-drop k ds (j - k) 0) ∙ ap (λ t. get_or t (j - k) 0) e
    ∙ get_or-map (λ x. S.product c x) (drop k cs) (j - k) 0 0 (omega arith)
    ∙ ap (S.product c) (get_or-drop k cs (j - k) 0 ∙ ap (λ t. get_or cs t 0) at)

-- the factor of which a product with x is y, x having the inverse i
pub factor_of_entries : (S : Scalars) (F : IsField S) (f x i y : ℕ) → IsScalar S f → IsScalar S x → IsScalar S i → S.product x i ≡ S.one → y ≡ S.product f x → f ≡ S.product y i
factor_of_entries S F f x i y hf hx hi one e = sym (F.product-one f hf) ∙ ap (S.product f) (sym one) ∙ sym (F.product_assoc f x i hf hx hi) ∙ ap (λ t. S.product t i) (sym e)

-- as they are read
pub read_of_multiple : (S : Scalars) (c k : ℕ) (cs ds : List ℕ) → drop k ds ≡ multiple S c (drop k cs) → (j : ℕ) → k ≤ j → j < length cs → (x y z : ℕ) → x ≡ get_or ds j 0 → y ≡ get_or cs j 0 → z ≡ S.product c y → x ≡ z
read_of_multiple S c k cs ds e j l h x y z r s t = r ∙ entries_of_multiple S c k cs ds e j l h ∙ ap (S.product c) (sym s) ∙ sym t

pub factor_read : (S : Scalars) (F : IsField S) (f k : ℕ) (cs ds : List ℕ) → IsScalar S f → drop k ds ≡ multiple S f (drop k cs) → (j : ℕ) → k ≤ j → j < length cs → (x i y w : ℕ) → IsScalar S x → IsScalar S i →
    x ≡ get_or cs j 0 → S.product x i ≡ S.one → y ≡ get_or ds j 0 → w ≡ S.product y i → f ≡ w
factor_read S F f k cs ds hf e j l h x i y w hx hi r one s t =
    factor_of_entries S F f x i y hf hx hi one (read_of_multiple S f k cs ds e j l h y x (S.product f x) s r refl) ∙ sym t
