-- The determinant of two pairs of scalars: it is not zero where the pairs are not proportional.
use Rattle.std.proofs.Common.{◌≡◌, ◌≢◌, ◌⊎◌, inl, inr, List, sym, ap, ap₂, ◌∙◌, subst}
use Rattle.vector_spaces.proofs.Pairs.{NonZero}
use Rattle.vector_spaces.proofs.Space.{Field, Space, linear, scale_comm, plus-minus, minus-plus, minus-minus}
use Rattle.vector_spaces.proofs.Span.{InSpan, span_scale, span_minus, undo}
use Rattle.vector_spaces.proofs.Tuples.{line}

-- the products across, one less the other
abbrev pub determinant : {K : Type 0} → Field K → K × K → K × K → K
determinant f a b = f.◌⊞◌ (f.◌⊠◌ a.0 b.1) (f.◌⊠◌ f.minus (f.◌⊠◌ a.1 b.0))

-- some combination of the two pairs, not by zeros alone, is zero
abbrev pub AreProportional : {K : Type 0} → Field K → K × K → K × K → Type 0
AreProportional {K} f a b = (x : K) × (y : K) × NonZero f (x, y) × (f.◌⊞◌ (f.◌⊠◌ x a.0) (f.◌⊠◌ y b.0) ≡ f.zero) × (f.◌⊞◌ (f.◌⊠◌ x a.1) (f.◌⊠◌ y b.1) ≡ f.zero)

module _ {K : Type 0} (f : Field K) where
  infixl 65 ◌⊞◌
  infixl 70 ◌⊠◌
  open f use {zero as o, one, minus, ◌⊞◌, ◌⊠◌, inv}

  pub of_minus : (x : K) → minus ⊠ x ≡ o → x ≡ o
  of_minus x e = sym (minus-minus f (line f) x) ∙ ap (λ z. minus ⊠ z) e ∙ f.mul-zero minus

  -- the determinant is not zero, or the pairs are proportional
  pub nonzero_or_proportional : (a b : K × K) → (determinant f a b ≢ o) ⊎ AreProportional f a b
  nonzero_or_proportional a b = go (f.same_scalar (a.0 ⊠ b.1 ⊞ minus ⊠ (a.1 ⊠ b.0)) o) (f.same_scalar a.0 o) (f.same_scalar a.1 o)
    where
      go : Dec (a.0 ⊠ b.1 ⊞ minus ⊠ (a.1 ⊠ b.0) ≡ o) → Dec (a.0 ≡ o) → Dec (a.1 ≡ o) → (a.0 ⊠ b.1 ⊞ minus ⊠ (a.1 ⊠ b.0) ≢ o) ⊎ AreProportional f a b
      go (no n) q r = inl n
      go (yes z) (no n) r = inr (minus ⊠ b.0, a.0, inr n, ap (λ t. t ⊞ a.0 ⊠ b.0) (f.mul_assoc minus b.0 a.0 ∙ ap (λ t. minus ⊠ t) (f.mul_comm b.0 a.0)) ∙ minus-plus f (line f) (a.0 ⊠ b.0), (simp linear) ∙ z)
      go (yes z) (yes q) (no n) = inr (b.1, minus ⊠ a.1, inr (λ e. n (of_minus a.1 e)), (simp linear) ∙ z, ap₂ (λ t u. t ⊞ u) (f.mul_comm b.1 a.1) (f.mul_assoc minus a.1 b.1) ∙ plus-minus f (line f) (a.1 ⊠ b.1))
      go (yes z) (yes q) (yes r) = inr (one, o, inl f.one≢zero, ap (λ t. one ⊠ t ⊞ o ⊠ b.0) q ∙ simp linear, ap (λ t. one ⊠ t ⊞ o ⊠ b.1) r ∙ simp linear)

module _ {K V : Type 0} {f : Field K} (s : Space f V) where
  infixl 65 ◌⊞◌
  infixl 70 ◌⊠◌
  infixl 65 ◌⊕◌
  infixl 70 ◌·◌
  open f use {zero as o, one, minus, ◌⊞◌, ◌⊠◌, inv}
  open s use {null, ◌⊕◌, ◌·◌}

  first_of_two : (u v : V) (a b : K × K) → b.1 · (a.0 · u ⊕ a.1 · v) ⊕ minus · (a.1 · (b.0 · u ⊕ b.1 · v)) ≡ determinant f a b · u
  first_of_two u v a b = simp (scale_comm f s b.1 a.1 v, scale_comm f s b.1 a.0 u, scale_comm f s b.0 a.1 u, linear)

  second_of_two : (u v : V) (a b : K × K) → a.0 · (b.0 · u ⊕ b.1 · v) ⊕ minus · (b.0 · (a.0 · u ⊕ a.1 · v)) ≡ determinant f a b · v
  second_of_two u v a b = simp (scale_comm f s b.0 a.0 u, scale_comm f s b.0 a.1 v, linear)

  -- two vectors are in a span that has two combinations of them, if the determinant is not zero
  pub solve_pair : (u v : V) (a b : K × K) (W : List V) → determinant f a b ≢ o → InSpan s W (a.0 · u ⊕ a.1 · v) → InSpan s W (b.0 · u ⊕ b.1 · v) → InSpan s W u × InSpan s W v
  solve_pair u v a b W n hx hy = (
    whole u (span_minus f s W (b.1 · (a.0 · u ⊕ a.1 · v)) (a.1 · (b.0 · u ⊕ b.1 · v)) (span_scale f s W b.1 (a.0 · u ⊕ a.1 · v) hx) (span_scale f s W a.1 (b.0 · u ⊕ b.1 · v) hy)) (first_of_two u v a b),
    whole v (span_minus f s W (a.0 · (b.0 · u ⊕ b.1 · v)) (b.0 · (a.0 · u ⊕ a.1 · v)) (span_scale f s W a.0 (b.0 · u ⊕ b.1 · v) hy) (span_scale f s W b.0 (a.0 · u ⊕ a.1 · v) hx)) (second_of_two u v a b),
  )
    where
      whole : {z : V} (w : V) → InSpan s W z → z ≡ determinant f a b · w → InSpan s W w
      whole {z} w c e = subst (λ y. InSpan s W y) (ap (λ y. inv (determinant f a b) · y) e ∙ undo f s (determinant f a b) w n) (span_scale f s W (inv (determinant f a b)) z c)
