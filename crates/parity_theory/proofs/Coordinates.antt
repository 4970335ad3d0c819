-- Coordinates over a list of lines, a pair of scalars for each.
use Rattle.std.proofs.Common.{◌≡◌, ◌≢◌, ℕ, suc, ◌⊎◌, inl, inr, List, [], ◌∷◌, ◌++◌, length, refl, sym, ap, ◌∙◌, arith}
use Rattle.parity_theory.proofs.Entries.{At}
use Rattle.parity_theory.proofs.Lines.{vectors, line_combination}
use Rattle.parity_theory.proofs.Positions.{within_middle}
use Rattle.vector_spaces.proofs.Pairs.{NonZero, IsZero, zero_or_nonzero}
use Rattle.vector_spaces.proofs.Space.{Field, Space, linear}
use Rattle.vector_spaces.proofs.Span.{InSpan, span_null}
use Rattle.vector_spaces.proofs.Splits.{pivot_in}
use Rattle.vector_spaces.proofs.Within.{through, Within, placing, within_trans}

module _ {K V : Type 0} {f : Field K} (s : Space f V) (line : ℕ → V × V) where
  infixl 65 ◌⊞◌
  infixl 70 ◌⊠◌
  infixl 65 ◌⊕◌
  infixl 70 ◌·◌
  open f use {zero as o, one, minus, ◌⊞◌, ◌⊠◌, inv}
  open s use {null, ◌⊕◌, ◌·◌}

  pub line_combination-none : (M : List ℕ) → line_combination s line [] M ≡ null
  unfolding line_combination
  line_combination-none M = refl

  pub line_combination-nil : (cs : List (K × K)) → line_combination s line cs [] ≡ null
  unfolding line_combination
  line_combination-nil [] = refl
  line_combination-nil (c ∷ cs) = refl

  pub line_combination-cons : (c : K × K) (cs : List (K × K)) (m : ℕ) (M : List ℕ) → line_combination s line (c ∷ cs) (m ∷ M) ≡ c.0 · (line m).0 ⊕ c.1 · (line m).1 ⊕ line_combination s line cs M
  unfolding line_combination
  line_combination-cons c cs m M = refl

pub ruleset line_combining = (line_combination-none, line_combination-nil, line_combination-cons, linear)

module _ {K V : Type 0} {f : Field K} (s : Space f V) (line : ℕ → V × V) where
  infixl 65 ◌⊞◌
  infixl 70 ◌⊠◌
  infixl 65 ◌⊕◌
  infixl 70 ◌·◌
  open f use {zero as o, one, minus, ◌⊞◌, ◌⊠◌, inv}
  open s use {null, ◌⊕◌, ◌·◌}

  pub line_combination-append : (cs ds : List (K × K)) (L M : List ℕ) → length cs ≡ length L → line_combination s line (cs ++ ds) (L ++ M) ≡ line_combination s line cs L ⊕ line_combination s line ds M
  line_combination-append [] ds [] M e = simp line_combining
  line_combination-append [] ds (l ∷ L) M e = absurd (omega arith)
  line_combination-append (c ∷ cs) ds [] M e = absurd (omega arith)
  line_combination-append (c ∷ cs) ds (l ∷ L) M e = simp (line_combination-append cs ds L M (omega arith), line_combining)

  pub span_of_line_combination : (cs : List (K × K)) (M : List ℕ) → InSpan s (vectors line M) (line_combination s line cs M)
  span_of_line_combination [] M = rw (line_combination-none s line M) (span_null f s (vectors line M))
  span_of_line_combination (c ∷ cs) [] = line_combination-nil s line (c ∷ cs)
  span_of_line_combination (c ∷ cs) (m ∷ M) = (c.0, c.1 · (line m).1 ⊕ line_combination s line cs M, (c.1, line_combination s line cs M, span_of_line_combination cs M, refl), simp line_combining)

  pub line_combination_of_span : (M : List ℕ) (v : V) → InSpan s (vectors line M) v → (cs : List (K × K)) × (length cs ≡ length M) × (line_combination s line cs M ≡ v)
  line_combination_of_span [] v h = ([], refl, line_combination-none s line [] ∙ sym h)
  line_combination_of_span (m ∷ M) v h = let r = line_combination_of_span M h.2.1 h.2.2 in
      ((h.0, h.2.0) ∷ r.0, ap suc r.1, line_combination-cons s line (h.0, h.2.0) r.0 m M ∙ ap (λ t. h.0 · (line m).0 ⊕ h.2.0 · (line m).1 ⊕ t) r.2 ∙ (simp linear) ∙ sym (h.3 ∙ ap (λ t. h.0 · (line m).0 ⊕ t) h.2.3))

  pub line_combination-middle : (P : List ℕ) (m : ℕ) (Q : List ℕ) (c : List (K × K)) (p : K × K) (d : List (K × K)) → length c ≡ length P → line_combination s line (c ++ p ∷ d) (P ++ m ∷ Q) ≡ p.0 · (line m).0 ⊕ p.1 · (line m).1 ⊕ line_combination s line (c ++ d) (P ++ Q)
  line_combination-middle P m Q c p d e = simp (line_combination-append c (p ∷ d) P (m ∷ Q) e, line_combination-append c d P Q e, line_combining)

  -- a tip takes the place of one vector of a line at which it is not zero; y is the other one
  pub pivot_line : (P : List ℕ) (m : ℕ) (Q : List ℕ) (c : List (K × K)) (p : K × K) (d : List (K × K)) (x : V) → length c ≡ length P → line_combination s line (c ++ p ∷ d) (P ++ m ∷ Q) ≡ x → NonZero f p → (y : V) × Within s (vectors line (P ++ m ∷ Q)) (y ∷ x ∷ vectors line (P ++ Q))
  pivot_line P m Q c p d x e h (inl n) =
      let r : V = line_combination s line (c ++ d) (P ++ Q) in
      let k : InSpan s (vectors line (P ++ Q)) r = span_of_line_combination (c ++ d) (P ++ Q) in
      let q : x ≡ p.0 · (line m).0 ⊕ (p.1 · (line m).1 ⊕ r) = sym h ∙ line_combination-middle P m Q c p d e ∙ simp linear in
      let g : InSpan s (x ∷ (line m).1 ∷ vectors line (P ++ Q)) (line m).0 = pivot_in s ((line m).1 ∷ vectors line (P ++ Q)) p.0 (line m).0 x (p.1 · (line m).1 ⊕ r) n (p.1, r, k, refl) q in
      let g' : InSpan s ((line m).1 ∷ x ∷ vectors line (P ++ Q)) (line m).0 = through s (x ∷ (line m).1 ∷ vectors line (P ++ Q)) ((line m).1 ∷ x ∷ vectors line (P ++ Q)) (line m).0 (search placing) g in
      ((line m).1, within_trans s (vectors line (P ++ m ∷ Q)) (vectors line (m ∷ P ++ Q)) ((line m).1 ∷ x ∷ vectors line (P ++ Q)) (within_middle s line P m Q) (search (g', placing)))
  pivot_line P m Q c p d x e h (inr n) =
      let r : V = line_combination s line (c ++ d) (P ++ Q) in
      let k : InSpan s (vectors line (P ++ Q)) r = span_of_line_combination (c ++ d) (P ++ Q) in
      let q : x ≡ p.1 · (line m).1 ⊕ (p.0 · (line m).0 ⊕ r) = sym h ∙ line_combination-middle P m Q c p d e ∙ simp linear in
      let g : InSpan s (x ∷ (line m).0 ∷ vectors line (P ++ Q)) (line m).1 = pivot_in s ((line m).0 ∷ vectors line (P ++ Q)) p.1 (line m).1 x (p.0 · (line m).0 ⊕ r) n (p.0, r, k, refl) q in
      let g' : InSpan s ((line m).0 ∷ x ∷ vectors line (P ++ Q)) (line m).1 = through s (x ∷ (line m).0 ∷ vectors line (P ++ Q)) ((line m).0 ∷ x ∷ vectors line (P ++ Q)) (line m).1 (search placing) g in
      ((line m).0, within_trans s (vectors line (P ++ m ∷ Q)) (vectors line (m ∷ P ++ Q)) ((line m).0 ∷ x ∷ vectors line (P ++ Q)) (within_middle s line P m Q) (search (g', placing)))

  -- a combination that is not null has a line in its support
  pub support_line : (M : List ℕ) (cs : List (K × K)) → line_combination s line cs M ≢ null → (m : ℕ) × (p : K × K) × At m p M cs × NonZero f p
  support_line M [] n = absurd (n (line_combination-none s line M))
  support_line [] (c ∷ cs) n = absurd (n (line_combination-nil s line (c ∷ cs)))
  support_line (m ∷ M) (c ∷ cs) n = go (zero_or_nonzero f c) (support_line M cs)
    where
      go : IsZero f c ⊎ NonZero f c → (line_combination s line cs M ≢ null → (l : ℕ) × (p : K × K) × At l p M cs × NonZero f p) → (l : ℕ) × (p : K × K) × At l p (m ∷ M) (c ∷ cs) × NonZero f p
      go (inr z) ih = (m, c, inl (refl, refl), z)
      go (inl z) ih = let r = ih (λ q. n (line_combination-cons s line c cs m M ∙ rw (z.0, z.1, q) (simp linear))) in (r.0, r.1, inr r.2, r.3)
