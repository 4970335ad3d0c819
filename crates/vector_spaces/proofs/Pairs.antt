-- Pairs of scalars: both zero, or not, and their multiples.
use Rattle.std.proofs.Common.{◌≡◌, ◌≢◌, ◌⊎◌, inl, inr, sym, ap, ◌∙◌}
use Rattle.vector_spaces.proofs.Space.{Field}
use Rattle.vector_spaces.proofs.Span.{undo}
use Rattle.vector_spaces.proofs.Tuples.{line}

-- both scalars are zero
abbrev pub IsZero : {K : Type 0} → Field K → K × K → Type 0
IsZero f p = (p.0 ≡ f.zero) × (p.1 ≡ f.zero)

-- one of the two scalars is not zero
abbrev pub NonZero : {K : Type 0} → Field K → K × K → Type 0
NonZero f p = (p.0 ≢ f.zero) ⊎ (p.1 ≢ f.zero)

-- a times the pair
abbrev pub scaled : {K : Type 0} → Field K → K → K × K → K × K
scaled f a p = (f.◌⊠◌ a p.0, f.◌⊠◌ a p.1)

module _ {K : Type 0} (f : Field K) where
  infixl 70 ◌⊠◌
  open f use {zero as o, ◌⊠◌, inv}

  -- one or the other, and not both
  pub zero_or_nonzero : (p : K × K) → IsZero f p ⊎ NonZero f p
  zero_or_nonzero p = go (f.same_scalar p.0 o) (f.same_scalar p.1 o)
    where
      go : Dec (p.0 ≡ o) → Dec (p.1 ≡ o) → IsZero f p ⊎ NonZero f p
      go (yes d) (yes e) = inl (d, e)
      go (yes d) (no n) = inr (inr n)
      go (no n) e = inr (inl n)

  pub nonzero_not_zero : (p : K × K) → NonZero f p → ¬ (IsZero f p)
  nonzero_not_zero p (inl n) z = n z.0
  nonzero_not_zero p (inr n) z = n z.1

  -- a product is zero only by a factor that is zero
  pub zero_factor : (a b : K) → a ≢ o → a ⊠ b ≡ o → b ≡ o
  zero_factor a b n e = sym (undo f (line f) a b n) ∙ ap (λ x. inv a ⊠ x) e ∙ f.mul-zero (inv a)

  pub scaled_nonzero : (a : K) (p : K × K) → a ≢ o → NonZero f p → NonZero f (scaled f a p)
  scaled_nonzero a p k (inl n) = inl (λ z. n (zero_factor a p.0 k z))
  scaled_nonzero a p k (inr n) = inr (λ z. n (zero_factor a p.1 k z))
