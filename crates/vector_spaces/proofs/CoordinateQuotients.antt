-- Dividing by a point at a coordinate: the multiple of the point that clears the coordinate is added, and the coordinate left out.
use Rattle.std.proofs.Common.{◌≡◌, ◌≢◌, refl, sym, ap, ◌∙◌}
use Rattle.vector_spaces.proofs.LinearMaps.{IsLinear, linear-null}
use Rattle.vector_spaces.proofs.Pairs.{zero_factor}
use Rattle.vector_spaces.proofs.Quotients.{Quotient}
use Rattle.vector_spaces.proofs.Space.{Field, Space, linear, merging, plus-minus, minus-plus, minus-minus}
use Rattle.vector_spaces.proofs.Splits.{same_of_difference}
use Rattle.vector_spaces.proofs.Tuples.{line}

-- `coordinate` and `others` tell all of a vector, and `put` makes one whose coordinate is zero
pub record IsCoordinate {K V W : Type 0} {f : Field K} (s : Space f V) (t : Space f W) (coordinate : V → K) (others : V → W) (put : W → V) : Type 0 where
  pub coordinate_linear : IsLinear s (line f) coordinate
  pub others_linear : IsLinear s t others
  pub others-put : (w : W) → others (put w) ≡ w
  pub coordinate-put : (w : W) → coordinate (put w) ≡ f.zero
  pub null_of_zeros : (v : V) → coordinate v ≡ f.zero → others v ≡ t.null → v ≡ s.null

module _ {K V W : Type 0} {f : Field K} (s : Space f V) (t : Space f W) (coordinate : V → K) (others : V → W) (put : W → V) (k : IsCoordinate s t coordinate others put) (p : V) (n : coordinate p ≢ f.zero) where
  infixl 65 ◌⊞◌
  infixl 70 ◌⊠◌
  infixl 65 ◌⊕◌
  infixl 70 ◌·◌
  open f use {zero as o, one, minus, ◌⊞◌, ◌⊠◌, inv}
  open s use {null, ◌⊕◌, ◌·◌}

  -- v's coordinate over the point's, taken negatively
  abbrev factor : V → K
  factor v = minus ⊠ (coordinate v ⊠ inv (coordinate p))

  factor-times : (v : V) → factor v ⊠ coordinate p ≡ minus ⊠ coordinate v
  factor-times v = f.mul_assoc minus (coordinate v ⊠ inv (coordinate p)) (coordinate p)
      ∙ ap (λ x. minus ⊠ x) (f.mul_assoc (coordinate v) (inv (coordinate p)) (coordinate p) ∙ ap (λ x. coordinate v ⊠ x) (f.mul_comm (inv (coordinate p)) (coordinate p) ∙ f.mul-inv (coordinate p) n) ∙ f.mul-one (coordinate v))

  -- no other factor clears the coordinate
  factor_unique : (v : V) (c : K) → c ⊠ coordinate p ⊞ coordinate v ≡ o → c ≡ factor v
  factor_unique v c e = same_of_difference (line f) c (factor v) (zero_factor f (coordinate p) (c ⊞ minus ⊠ factor v) n (turned (coordinate p) (factor v) ∙ ap (λ x. c ⊠ coordinate p ⊞ minus ⊠ x) (factor-times v) ∙ ap (λ x. c ⊠ coordinate p ⊞ x) (minus-minus f (line f) (coordinate v)) ∙ e))
    where
      turned : (a d : K) → a ⊠ (c ⊞ minus ⊠ d) ≡ c ⊠ a ⊞ minus ⊠ (d ⊠ a)
      turned a d = simp linear

  -- v with that multiple of the point added, without the coordinate
  pub cleared : V → W
  cleared v = others (v ⊕ factor v · p)

  -- the same by any factor that clears the coordinate
  pub cleared-by : (v : V) (c : K) → c ⊠ coordinate p ⊞ coordinate v ≡ o → others (v ⊕ c · p) ≡ cleared v
  unfolding cleared
  cleared-by v c e = ap (λ x. others (v ⊕ x · p)) (factor_unique v c e)

  coordinate-cleared : (v : V) → coordinate (v ⊕ factor v · p) ≡ o
  coordinate-cleared v = k.coordinate_linear.plus v (factor v · p) ∙ ap (λ x. coordinate v ⊞ x) (k.coordinate_linear.scale (factor v) p ∙ factor-times v) ∙ plus-minus f (line f) (coordinate v)

  cleared_linear : IsLinear s t cleared
  unfolding cleared
  cleared_linear = record {
    plus = λ u v. ap (λ x. others ((u ⊕ v) ⊕ (minus ⊠ (x ⊠ inv (coordinate p))) · p)) (k.coordinate_linear.plus u v)
        ∙ ap others (sum_terms u v (coordinate u) (coordinate v) (inv (coordinate p))) ∙ k.others_linear.plus (u ⊕ factor u · p) (v ⊕ factor v · p);
    scale = λ c v. ap (λ x. others (c · v ⊕ (minus ⊠ (x ⊠ inv (coordinate p))) · p)) (k.coordinate_linear.scale c v)
        ∙ ap others (scale_terms c v (coordinate v) (inv (coordinate p))) ∙ k.others_linear.scale c (v ⊕ factor v · p);
  }
    where
      sum_terms : (u v : V) (a b x : K) → (u ⊕ v) ⊕ (minus ⊠ ((a ⊞ b) ⊠ x)) · p ≡ (u ⊕ (minus ⊠ (a ⊠ x)) · p) ⊕ (v ⊕ (minus ⊠ (b ⊠ x)) · p)
      sum_terms u v a b x = simp merging

      scale_terms : (c : K) (v : V) (a x : K) → c · v ⊕ (minus ⊠ ((c ⊠ a) ⊠ x)) · p ≡ c · (v ⊕ (minus ⊠ (a ⊠ x)) · p)
      scale_terms c v a x = simp merging

  -- V modulo p
  pub coordinate_quotient : Quotient s t p
  unfolding cleared
  coordinate_quotient = record {
    project = cleared;
    lift = put;
    is_linear = cleared_linear;
    project-lift = λ w. sym (cleared-by (put w) o (ap (λ x. o ⊠ coordinate p ⊞ x) (k.coordinate-put w) ∙ nothing (coordinate p))) ∙ ap others (rest (put w)) ∙ k.others-put w;
    project-point = sym (cleared-by p minus (minus-plus f (line f) (coordinate p))) ∙ ap others (plus-minus f s p) ∙ linear-null f s t others k.others_linear;
    only_multiples = λ v z. (minus ⊠ factor v, same_of_difference s v ((minus ⊠ factor v) · p) (back v (factor v) ∙ k.null_of_zeros (v ⊕ factor v · p) (coordinate-cleared v) z));
    point≢null = λ e. n (ap coordinate e ∙ linear-null f s (line f) coordinate k.coordinate_linear);
  }
    where
      nothing : (a : K) → o ⊠ a ⊞ o ≡ o
      nothing a = simp linear

      rest : (v : V) → v ⊕ o · p ≡ v
      rest v = simp linear

      back : (v : V) (c : K) → v ⊕ minus · ((minus ⊠ c) · p) ≡ v ⊕ c · p
      back v c = simp linear

  -- the projection by any factor that clears the coordinate
  pub coordinate_quotient-project : (v : V) (c : K) → c ⊠ coordinate p ⊞ coordinate v ≡ o → coordinate_quotient.project v ≡ others (v ⊕ c · p)
  unfolding coordinate_quotient
  coordinate_quotient-project v c e = sym (cleared-by v c e)

  pub coordinate_quotient-lift : (w : W) → coordinate_quotient.lift w ≡ put w
  unfolding coordinate_quotient
  coordinate_quotient-lift w = refl
