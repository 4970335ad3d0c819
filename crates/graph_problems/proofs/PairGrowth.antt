-- Vectors of pairs grow by the entries of the last vertex, and have the coordinates of all vertices.
use Rattle.std.proofs.Common.{◌≡◌, ℕ, zero, suc, List, [], ◌∷◌, ◌++◌, length, refl, sym, ap, ◌∙◌, arith, Bool, true, false}
use Rattle.std.specs.Prelude.{◌≢◌}
use Rattle.std.proofs.lemmas.List.{length-replicate, length-map, append_assoc, append-nil}
use Rattle.linear_algebra.specs.Scalars.{Scalars}
use Rattle.linear_algebra.specs.Vectors.{zero_vector, vector_sum, multiple}
use Rattle.path_theory.specs.Coordinates.{wider, dimension}
use Rattle.graph_problems.specs.PathLines.{pair_entries, zero_entries, pair_vector, edge_pair}

zeros_wider : (S : Scalars) (b : Bool) (d : ℕ) → zero_vector S (wider b d) ≡ zero_entries S b ++ zero_vector S d
zeros_wider S true d = refl
zeros_wider S false d = refl

zeros_grow : (S : Scalars) (n : ℕ) (P : ℕ → Bool) → zero_vector S (dimension (suc n) P) ≡ zero_vector S (dimension n P) ++ zero_entries S (P n)
zeros_grow S zero P = zeros_wider S (P zero) zero ∙ append-nil (zero_entries S (P zero))
zeros_grow S (suc n) P = zeros_wider S (P zero) (dimension (suc n) (λ v. P (suc v)))
    ∙ ap (λ z. zero_entries S (P zero) ++ z) (zeros_grow S n (λ v. P (suc v)))
    ∙ sym (append_assoc (zero_entries S (P zero)) (zero_vector S (dimension n (λ v. P (suc v)))) (zero_entries S (P (suc n))))
    ∙ ap (λ z. z ++ zero_entries S (P (suc n))) (sym (zeros_wider S (P zero) (dimension n (λ v. P (suc v)))))

entries-length : (S : Scalars) (minus : ℕ) (b : Bool) (j x y : ℕ) (us : List ℕ) → length (pair_entries S minus b j x y ++ us) ≡ wider b (length us)
entries-length S minus true j x y us = refl
entries-length S minus false j x y us = refl

zeros-length : (S : Scalars) (b : Bool) (us : List ℕ) → length (zero_entries S b ++ us) ≡ wider b (length us)
zeros-length S true us = refl
zeros-length S false us = refl

sum-length : (S : Scalars) (u v : List ℕ) → length u ≡ length v → length (vector_sum S u v) ≡ length u
unfolding vector_sum
sum-length S [] v e = refl
sum-length S (a ∷ u) [] e = absurd (omega arith)
sum-length S (a ∷ u) (b ∷ v) e = ap suc (sum-length S u v (omega arith))

module _ (S : Scalars) (minus x y : ℕ) where
  pub pair_vector_here : (n : ℕ) (P : ℕ → Bool) (class : ℕ → ℕ)
      → pair_vector S minus (suc n) P class n x y ≡ pair_vector S minus n P class n x y ++ pair_entries S minus (P n) (class n) x y
  pair_vector_here zero P class = append-nil (pair_entries S minus (P zero) (class zero) x y)
  pair_vector_here (suc n) P class = ap (λ z. zero_entries S (P zero) ++ z) (pair_vector_here n (λ v. P (suc v)) (λ v. class (suc v)))
      ∙ sym (append_assoc (zero_entries S (P zero)) (pair_vector S minus n (λ v. P (suc v)) (λ v. class (suc v)) n x y)
      (pair_entries S minus (P (suc n)) (class (suc n)) x y))

  pub pair_vector_away : (n : ℕ) (P : ℕ → Bool) (class : ℕ → ℕ) (v : ℕ) → n ≢ v
      → pair_vector S minus (suc n) P class v x y ≡ pair_vector S minus n P class v x y ++ zero_entries S (P n)
  pair_vector_away zero P class zero h = absurd (h refl)
  pair_vector_away zero P class (suc v) h = append-nil (zero_entries S (P zero))
  pair_vector_away (suc n) P class zero h =
      ap (λ z. pair_entries S minus (P zero) (class zero) x y ++ z) (zeros_grow S n (λ v. P (suc v)))
      ∙ sym (append_assoc (pair_entries S minus (P zero) (class zero) x y) (zero_vector S (dimension n (λ v. P (suc v)))) (zero_entries S (P (suc n))))
  pair_vector_away (suc n) P class (suc v) h =
      ap (λ z. zero_entries S (P zero) ++ z) (pair_vector_away n (λ v. P (suc v)) (λ v. class (suc v)) v (λ e. h (ap suc e)))
      ∙ sym (append_assoc (zero_entries S (P zero)) (pair_vector S minus n (λ v. P (suc v)) (λ v. class (suc v)) v x y) (zero_entries S (P (suc n))))

  pub pair_vector-length : (n : ℕ) (P : ℕ → Bool) (class : ℕ → ℕ) (v : ℕ) → length (pair_vector S minus n P class v x y) ≡ dimension n P
  pair_vector-length zero P class v = refl
  pair_vector-length (suc n) P class zero = entries-length S minus (P zero) (class zero) x y (zero_vector S (dimension n (λ v. P (suc v))))
      ∙ ap (wider (P zero)) (length-replicate (dimension n (λ v. P (suc v))) S.zero)
  pair_vector-length (suc n) P class (suc v) = zeros-length S (P zero) (pair_vector S minus n (λ v. P (suc v)) (λ v. class (suc v)) v x y)
      ∙ ap (wider (P zero)) (pair_vector-length n (λ v. P (suc v)) (λ v. class (suc v)) v)

  pub edge_pair-length : (n : ℕ) (P : ℕ → Bool) (class : ℕ → ℕ) (e : ℕ × ℕ) → length (edge_pair S minus n P class e x y) ≡ dimension n P
  edge_pair-length n P class e =
      let a = pair_vector-length n P class e.0 in let b = pair_vector-length n P class e.1 in
      let c = length-map (pair_vector S minus n P class e.1 x y) (S.product minus) in
      sum-length S (pair_vector S minus n P class e.0 x y) (multiple S minus (pair_vector S minus n P class e.1 x y)) (omega arith) ∙ a
