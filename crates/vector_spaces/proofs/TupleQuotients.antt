-- Tuples modulo a point, at any coordinate at which the point is not zero: tuples of one coordinate less.
use Rattle.std.proofs.Common.{◌≡◌, ◌≢◌, ℕ, zero, suc, ◌≤◌, refl, sym, ap, ap₂, ◌∙◌, arith}
use Rattle.vector_spaces.proofs.CoordinateQuotients.{IsCoordinate, coordinate_quotient, coordinate_quotient-project, coordinate_quotient-lift}
use Rattle.vector_spaces.proofs.LinearMaps.{IsLinear, at-linear}
use Rattle.vector_spaces.proofs.Quotients.{Quotient}
use Rattle.vector_spaces.proofs.Space.{Field}
use Rattle.vector_spaces.proofs.Tuples.{Tuple, tuples, at}

-- the tuple without its coordinate at i
abbrev pub tuple_without : {K : Type 0} (d i : ℕ) → Tuple K (suc d) → Tuple K d
tuple_without d zero v = v.1
tuple_without zero (suc i) v = tt
tuple_without (suc d) (suc i) v = (v.0, tuple_without d i v.1)

-- the tuple with zero put in at i
abbrev pub tuple_with_zero : {K : Type 0} (f : Field K) (d i : ℕ) → Tuple K d → Tuple K (suc d)
tuple_with_zero f d zero w = (f.zero, w)
tuple_with_zero f zero (suc i) w = (f.zero, tt)
tuple_with_zero f (suc d) (suc i) w = (w.0, tuple_with_zero f d i w.1)

module _ {K : Type 0} (f : Field K) where
  open f use {zero as o}

  tuple_without-linear : (d i : ℕ) → IsLinear (tuples f (suc d)) (tuples f d) (tuple_without d i)
  tuple_without-linear d zero = record { plus = λ u v. refl; scale = λ c v. refl }
  tuple_without-linear zero (suc i) = record { plus = λ u v. refl; scale = λ c v. refl }
  tuple_without-linear (suc d) (suc i) = let r = tuple_without-linear d i in record {
    plus = λ u v. ap (λ t. (f.◌⊞◌ u.0 v.0, t)) (r.plus u.1 v.1);
    scale = λ c v. ap (λ t. (f.◌⊠◌ c v.0, t)) (r.scale c v.1);
  }

  tuple_without-with_zero : (d i : ℕ) (w : Tuple K d) → tuple_without d i (tuple_with_zero f d i w) ≡ w
  tuple_without-with_zero d zero w = refl
  tuple_without-with_zero zero (suc i) w = refl
  tuple_without-with_zero (suc d) (suc i) w = ap (λ t. (w.0, t)) (tuple_without-with_zero d i w.1)

  at-with_zero : (d i : ℕ) (w : Tuple K d) → at f (suc d) i (tuple_with_zero f d i w) ≡ o
  at-with_zero d zero w = refl
  at-with_zero zero (suc i) w = refl
  at-with_zero (suc d) (suc i) w = at-with_zero d i w.1

  tuple_with_zero-without : (d i : ℕ) (v : Tuple K (suc d)) → i ≤ d → at f (suc d) i v ≡ o → tuple_with_zero f d i (tuple_without d i v) ≡ v
  tuple_with_zero-without d zero v h e = ap (λ a. (a, v.1)) (sym e)
  tuple_with_zero-without zero (suc i) v h e = absurd (omega arith)
  tuple_with_zero-without (suc d) (suc i) v h e = ap (λ t. (v.0, t)) (tuple_with_zero-without d i v.1 (omega arith) e)

  tuple_with_zero-null : (d i : ℕ) → tuple_with_zero f d i (tuples f d).null ≡ (tuples f (suc d)).null
  tuple_with_zero-null d zero = refl
  tuple_with_zero-null zero (suc i) = refl
  tuple_with_zero-null (suc d) (suc i) = ap (λ t. (o, t)) (tuple_with_zero-null d i)

  module _ (d i : ℕ) (h : i ≤ d) where
    tuple_coordinate : IsCoordinate (tuples f (suc d)) (tuples f d) (at f (suc d) i) (tuple_without d i) (tuple_with_zero f d i)
    tuple_coordinate = record {
      coordinate_linear = at-linear f (suc d) i;
      others_linear = tuple_without-linear d i;
      others-put = tuple_without-with_zero d i;
      coordinate-put = at-with_zero d i;
      null_of_zeros = λ v e z. sym (tuple_with_zero-without d i v h e) ∙ ap (tuple_with_zero f d i) z ∙ tuple_with_zero-null d i;
    }

    module _ (p : Tuple K (suc d)) (n : at f (suc d) i p ≢ o) where
      -- the tuples modulo p
      pub tuple_quotient : Quotient (tuples f (suc d)) (tuples f d) p
      tuple_quotient = coordinate_quotient (tuples f (suc d)) (tuples f d) (at f (suc d) i) (tuple_without d i)
          (tuple_with_zero f d i) tuple_coordinate p n

      -- the projection by any factor that clears the coordinate
      pub tuple_quotient-project : (v : Tuple K (suc d)) (c : K) → f.◌⊞◌ (f.◌⊠◌ c (at f (suc d) i p)) (at f (suc d) i v) ≡ o →
          tuple_quotient.project v ≡ tuple_without d i ((tuples f (suc d)).◌⊕◌ v ((tuples f (suc d)).◌·◌ c p))
      unfolding tuple_quotient
      tuple_quotient-project v c e = coordinate_quotient-project (tuples f (suc d)) (tuples f d) (at f (suc d) i) (tuple_without d i)
          (tuple_with_zero f d i) tuple_coordinate p n v c e

      pub tuple_quotient-lift : (w : Tuple K d) → tuple_quotient.lift w ≡ tuple_with_zero f d i w
      unfolding tuple_quotient
      tuple_quotient-lift w = coordinate_quotient-lift (tuples f (suc d)) (tuples f d) (at f (suc d) i) (tuple_without d i)
          (tuple_with_zero f d i) tuple_coordinate p n w

module _ {K : Type 0} (f : Field K) where
  -- a tuple that is not null is not zero at some coordinate
  pub coordinate_not_zero : (d : ℕ) (v : Tuple K (suc d)) → v ≢ (tuples f (suc d)).null → (i : ℕ) × (i ≤ d) × (at f (suc d) i v ≢ f.zero)
  coordinate_not_zero zero v n = (zero, omega arith, λ e. n (ap₂ (λ a t. (a, t)) e refl))
  coordinate_not_zero (suc d) v n = go (f.same_scalar v.0 f.zero) (coordinate_not_zero d v.1)
    where
      go : Dec (v.0 ≡ f.zero) → (v.1 ≢ (tuples f (suc d)).null → (i : ℕ) × (i ≤ d) × (at f (suc d) i v.1 ≢ f.zero)) →
          (i : ℕ) × (i ≤ suc d) × (at f (suc (suc d)) i v ≢ f.zero)
      go (no m) h = (zero, omega arith, m)
      go (yes e) h = let r = h (λ z. n (ap₂ (λ a t. (a, t)) e z)) in (suc r.0, (let b = r.1 in omega arith), r.2)

  -- so the tuples modulo it are those with one coordinate less
  pub quotient_of_tuples : (d : ℕ) (p : Tuple K (suc d)) → p ≢ (tuples f (suc d)).null → Quotient (tuples f (suc d)) (tuples f d) p
  quotient_of_tuples d p n = let r = coordinate_not_zero d p n in tuple_quotient f d r.0 r.1 p r.2
