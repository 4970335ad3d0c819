-- The unit vectors: a basis over which each vector is its own list of coordinates.
use Rattle.std.proofs.Common.{◌≡◌, ℕ, zero, suc, ◌+◌, List, [], ◌∷◌, length, map, refl, sym, ap, ap₂, ◌∙◌, subst, arith, All}
use Rattle.std.specs.List.{range_with_len}
use Rattle.std.proofs.lemmas.List.{length-map}
use Rattle.std.proofs.lemmas.List.FromFn.{length-range_with_len}
use Rattle.std.proofs.lemmas.List.Elements.{All-head, All-tail, All-nil, All-cons}
use Rattle.linear_algebra.specs.Scalars.{Scalars, IsScalar, IsField}
use Rattle.linear_algebra.specs.Vectors.{IsVector, zero_vector, vector_sum, multiple}
use Rattle.linear_algebra.specs.Spans.{combination, Combines}
use Rattle.linear_algebra.proofs.Elements.{product-zero}
use Rattle.linear_algebra.proofs.Coordinates.{IsVector-head, IsVector-tail}
use Rattle.linear_algebra.proofs.VectorLaws.{zero-vector}
use Rattle.coordinates.specs.Bases.{IsBasis, unit_vector, unit_vectors}
use Rattle.coordinates.proofs.Pivots.{set-vector}

range-suc : (a b n : ℕ) → b ≡ suc a → range_with_len b n ≡ map suc (range_with_len a n)
range-suc a b zero e = refl
range-suc a b (suc n) e = ap₂ (λ x xs. x ∷ xs) e (range-suc (a + 1) (b + 1) n (omega arith))

map-map : {X Y Z : Type 0} (f : X → Y) (g : Y → Z) (xs : List X) → map g (map f xs) ≡ map (λ x. g (f x)) xs
map-map f g [] = refl
map-map f g (x ∷ xs) = ap (λ ys. g (f x) ∷ ys) (map-map f g xs)

all_of_map : {X Y : Type 0} (P : Y → Type 0) (f : X → Y) → ((x : X) → P (f x)) → (xs : List X) → All P (map f xs)
all_of_map P f h [] = All-nil P
all_of_map P f h (x ∷ xs) = All-cons P (f x) (map f xs) (h x) (all_of_map P f h xs)

units-suc : (S : Scalars) (d : ℕ) → unit_vectors S (suc d) ≡ (S.one ∷ zero_vector S d) ∷ map (λ v. S.zero ∷ v) (unit_vectors S d)
units-suc S d = ap (λ us. (S.one ∷ zero_vector S d) ∷ us)
    (ap (map (unit_vector S (suc d))) (range-suc 0 1 d refl) ∙ map-map suc (unit_vector S (suc d)) (range_with_len 0 d) ∙ sym (map-map (unit_vector S d) (λ v. S.zero ∷ v) (range_with_len 0 d)))

module _ (S : Scalars) (F : IsField S) where
  zeros_multiple : (c n : ℕ) → IsScalar S c → multiple S c (zero_vector S n) ≡ zero_vector S n
  zeros_multiple c zero h = refl
  zeros_multiple c (suc n) h = ap₂ (λ x xs. x ∷ xs) (product-zero S F c h) (zeros_multiple c n h)

  zero_sum : (a : ℕ) → IsScalar S a → S.sum S.zero a ≡ a
  zero_sum a h = F.sum_comm S.zero a F.zero_in h ∙ F.sum-zero a h

  pub zeros-sum : (d : ℕ) (v : List ℕ) → IsVector S d v → vector_sum S (zero_vector S d) v ≡ v
  unfolding vector_sum
  zeros-sum zero [] h = refl
  zeros-sum zero (a ∷ v) h = absurd (let e = h.length_is in omega arith)
  zeros-sum (suc d) [] h = absurd (let e = h.length_is in omega arith)
  zeros-sum (suc d) (a ∷ v) h = ap₂ (λ x xs. x ∷ xs) (zero_sum a (IsVector-head S d a v h)) (zeros-sum d v (IsVector-tail S d a v h))

  combination-below : (d : ℕ) (cs : List ℕ) (vs : List (List ℕ)) → All (IsScalar S) cs →
      combination S (suc d) cs (map (λ v. S.zero ∷ v) vs) ≡ S.zero ∷ combination S d cs vs
  unfolding combination vector_sum
  combination-below d [] vs h = refl
  combination-below d (c ∷ cs) [] h = refl
  combination-below d (c ∷ cs) (v ∷ vs) h =
      let c_in = All-head (IsScalar S) c cs h in
      ap (vector_sum S (multiple S c (S.zero ∷ v))) (combination-below d cs vs (All-tail (IsScalar S) c cs h))
      ∙ ap (λ x. x ∷ vector_sum S (multiple S c v) (combination S d cs vs)) (ap (λ x. S.sum x S.zero) (product-zero S F c c_in) ∙ F.sum-zero S.zero F.zero_in)

  pub combination-units : (d : ℕ) (cs : List ℕ) → IsVector S d cs → combination S d cs (unit_vectors S d) ≡ cs
  unfolding combination vector_sum
  combination-units zero [] h = refl
  combination-units zero (c ∷ cs) h = absurd (let e = h.length_is in omega arith)
  combination-units (suc d) [] h = absurd (let e = h.length_is in omega arith)
  combination-units (suc d) (c ∷ cs) h =
      let c_in = IsVector-head S d c cs h in
      let cs_in = IsVector-tail S d c cs h in
      ap (combination S (suc d) (c ∷ cs)) (units-suc S d)
      ∙ ap₂ (vector_sum S) (ap (λ xs. S.product c S.one ∷ xs) (zeros_multiple c d c_in))
      (combination-below d cs (unit_vectors S d) cs_in.entries ∙ ap (λ xs. S.zero ∷ xs) (combination-units d cs cs_in))
      ∙ ap₂ (λ x xs. x ∷ xs) (ap (λ x. S.sum x S.zero) (F.product-one c c_in) ∙ F.sum-zero c c_in) (zeros-sum d cs cs_in)

  pub length-units : (d : ℕ) → length (unit_vectors S d) ≡ d
  length-units d = length-map (range_with_len 0 d) (unit_vector S d) ∙ length-range_with_len 0 d

  pub units_basis : (d : ℕ) → IsBasis S d (unit_vectors S d)
  units_basis d = record {
    vectors = all_of_map (IsVector S d) (unit_vector S d) (λ i. set-vector S F d i S.one (zero_vector S d) (zero-vector S F d) F.one_in) (range_with_len 0 d);
    length_is = length-units d;
    independent = λ cs c.
        let cs_in : IsVector S d cs = subst (λ n. IsVector S n cs) (length-units d) c.one_each in
        sym (combination-units d cs cs_in) ∙ c.gives ∙ ap (zero_vector S) (sym (length-units d));
  }

  pub units_combine : (d : ℕ) (v : List ℕ) → IsVector S d v → Combines S d (unit_vectors S d) v v
  units_combine d v h = record { one_each = subst (λ n. IsVector S n v) (sym (length-units d)) h; gives = combination-units d v h }
