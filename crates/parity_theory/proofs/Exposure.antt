-- Exposed lines: one vector of a line's span, its tip, is in the span of M and not null, and another one, its outer, is outside.
use Rattle.std.proofs.Common.{◌≡◌, ◌≢◌, ℕ, inl, inr, List, [], ◌∷◌, ◌++◌, length, map, refl, sym, ap, ◌∙◌, subst, arith}
use Rattle.std.proofs.lemmas.List.{length-append, length-map}
use Rattle.parity_theory.proofs.Coordinates.{span_of_line_combination}
use Rattle.parity_theory.proofs.Lines.{vectors, line_combination, IsFree}
use Rattle.parity_theory.proofs.Positions.{within_line}
use Rattle.parity_theory.proofs.Supports.{InSupport, support_scaled}
use Rattle.parity_theory.proofs.Uniqueness.{line_combination-scaled, unique_coordinates}
use Rattle.vector_spaces.proofs.Independence.{IsIndependent, counting_bound, same_length_independent, same_length_spans, append_outside, appended_is_outside, independent_left}
use Rattle.vector_spaces.proofs.Members.{In}
use Rattle.vector_spaces.proofs.Pairs.{scaled}
use Rattle.vector_spaces.proofs.Space.{Field, Space, linear}
use Rattle.vector_spaces.proofs.Span.{InSpan, span_scale}
use Rattle.vector_spaces.proofs.Splits.{pivot_in}
use Rattle.vector_spaces.proofs.Within.{Within, within_append, within_cons, within_nil, placing, through, within_trans}

-- e is exposed over M: its tip has the coordinates cs over M, its outer is outside, and both span what e spans
pub record Exposed {K V : Type 0} {f : Field K} (s : Space f V) (line : ℕ → V × V) (M : List ℕ) (e : ℕ) (tip outer : V) (cs : List (K × K)) : Type 0 where
  pub length_cs : length cs ≡ length M
  pub combines : line_combination s line cs M ≡ tip
  pub tip≢null : tip ≢ s.null
  pub apart : IsIndependent s (vectors line M ++ outer ∷ [])
  pub tip_outer_in : Within s (tip ∷ outer ∷ []) (vectors line (e ∷ []))
  pub line_in : Within s (vectors line (e ∷ [])) (tip ∷ outer ∷ [])

-- with some tip and outer
abbrev pub IsExposed : {K V : Type 0} {f : Field K} → Space f V → (ℕ → V × V) → List ℕ → ℕ → Type 0
IsExposed {K} {V} s line M e = (tip : V) × (outer : V) × (cs : List (K × K)) × Exposed s line M e tip outer cs

module _ {K V : Type 0} {f : Field K} (s : Space f V) (line : ℕ → V × V) where
  -- any vector in both spans that is not null is a tip, and any vector of e's span outside is an outer
  pub expose : (M : List ℕ) (e : ℕ) (tip outer : V) (cs : List (K × K)) → IsIndependent s (vectors line M) → length cs ≡ length M → line_combination s line cs M ≡ tip → tip ≢ s.null →
      InSpan s (vectors line (e ∷ [])) tip → InSpan s (vectors line (e ∷ [])) outer → ¬ (InSpan s (vectors line M) outer) → Exposed s line M e tip outer cs
  expose M e tip outer cs i lc c n ht ho no_in =
      let w : Within s (tip ∷ outer ∷ []) (vectors line (e ∷ [])) = search (ht, ho, placing) in
      let low : Within s (tip ∷ []) (vectors line M) = within_cons s tip [] (vectors line M) (subst (λ t. InSpan s (vectors line M) t) c (span_of_line_combination s line cs M)) (within_nil s (vectors line M)) in
      let j : IsIndependent s (tip ∷ outer ∷ []) = (n, (λ k. no_in (through s (tip ∷ []) (vectors line M) outer low k), tt)) in
      record {
        length_cs = lc;
        combines = c;
        tip≢null = n;
        apart = append_outside s (vectors line M) outer i no_in;
        tip_outer_in = w;
        line_in = same_length_spans s (tip ∷ outer ∷ []) (vectors line (e ∷ [])) j w (omega arith);
      }

module _ {K V : Type 0} {f : Field K} (s : Space f V) (line : ℕ → V × V) (M : List ℕ) (e : ℕ) (tip outer : V) (cs : List (K × K)) (x : Exposed s line M e tip outer cs) where
  -- where the tip, the outer and the line are
  pub tip_in_span : InSpan s (vectors line M) tip
  tip_in_span = subst (λ t. InSpan s (vectors line M) t) x.combines (span_of_line_combination s line cs M)

  pub outer_outside : ¬ (InSpan s (vectors line M) outer)
  outer_outside = appended_is_outside s (vectors line M) outer x.apart

  pub exposed_base : IsIndependent s (vectors line M)
  exposed_base = independent_left s (vectors line M) (outer ∷ []) x.apart

  pub tip_outer_independent : IsIndependent s (tip ∷ outer ∷ [])
  tip_outer_independent = (x.tip≢null, (λ c. outer_outside (through s (tip ∷ []) (vectors line M) outer (within_cons s tip [] (vectors line M) tip_in_span (within_nil s (vectors line M))) c), tt))

  pub exposed_line_independent : IsIndependent s (vectors line (e ∷ []))
  exposed_line_independent = same_length_independent s (tip ∷ outer ∷ []) (vectors line (e ∷ [])) tip_outer_independent x.tip_outer_in (omega arith)

  pub exposed_within : Within s (vectors line (e ∷ [])) (vectors line M ++ outer ∷ [])
  exposed_within = within_trans s (vectors line (e ∷ [])) (tip ∷ outer ∷ []) (vectors line M ++ outer ∷ []) x.line_in (let t = tip_in_span in search (t, placing))

  -- e is not within the span of M, none of M, and not free
  pub exposed_not_inside : ¬ (Within s (vectors line (e ∷ [])) (vectors line M))
  exposed_not_inside w = outer_outside (through s (vectors line (e ∷ [])) (vectors line M) outer w (x.tip_outer_in.each outer (inr (inl refl))))

  pub exposed_not_in : ¬ (In e M)
  exposed_not_in i = exposed_not_inside (within_line s line e M i)

  pub exposed_not_free : ¬ (IsFree s line M e)
  exposed_not_free i =
      let b = counting_bound s (vectors line M ++ vectors line (e ∷ [])) (vectors line M ++ outer ∷ []) i
      (within_append s (vectors line M) (vectors line (e ∷ [])) (vectors line M ++ outer ∷ []) (search placing) exposed_within) in
      absurd (omega (arith, length-append {A = V}))

-- two ways in which a line is exposed
module _ {K V : Type 0} {f : Field K} (s : Space f V) (line : ℕ → V × V) (M : List ℕ) (e : ℕ) (tip outer : V) (cs : List (K × K)) (x : Exposed s line M e tip outer cs) (tip' outer' : V) (cs' : List (K × K)) (y : Exposed s line M e tip' outer' cs') where
  infixl 65 ◌⊞◌
  infixl 70 ◌⊠◌
  infixl 65 ◌⊕◌
  infixl 70 ◌·◌
  open f use {zero as o, one, minus, ◌⊞◌, ◌⊠◌, inv}
  open s use {null, ◌⊕◌, ◌·◌}

  -- the tips are multiples of each other
  pub tip_is_unique : (a : K) × (a ≢ o) × (tip' ≡ a · tip)
  tip_is_unique = go h.0 h.2.0 (h.3 ∙ ap (λ t. h.0 · tip ⊕ t) (h.2.3 ∙ ap (λ t. h.2.0 · outer ⊕ t) h.2.2)) (f.same_scalar h.2.0 o)
    where
      h : InSpan s (tip ∷ outer ∷ []) tip'
      h = through s (vectors line (e ∷ [])) (tip ∷ outer ∷ []) tip' x.line_in (y.tip_outer_in.each tip' (inl refl))

      go : (a b : K) → tip' ≡ a · tip ⊕ (b · outer ⊕ null) → Dec (b ≡ o) → (a : K) × (a ≢ o) × (tip' ≡ a · tip)
      go a b q (yes z) =
          let q' : tip' ≡ a · tip = q ∙ ap (λ t. a · tip ⊕ (t · outer ⊕ null)) z ∙ simp linear in
          (a, (λ n. y.tip≢null (q' ∙ ap (λ t. t · tip) n ∙ s.zero-scale tip)), q')
      go a b q (no n) = absurd (outer_outside s line M e tip outer cs x (through s (tip' ∷ tip ∷ []) (vectors line M) outer
          (within_cons s tip' (tip ∷ []) (vectors line M) (tip_in_span s line M e tip' outer' cs' y) (within_cons s tip [] (vectors line M) (tip_in_span s line M e tip outer cs x) (within_nil s (vectors line M))))
          (pivot_in s (tip ∷ []) b outer tip' (a · tip) n (a, null, refl, simp linear) (q ∙ simp linear))))

  -- each outer is a multiple of the other, and of the tip, added
  pub outer_is_unique : (a : K) × (b : K) × (b ≢ o) × (outer' ≡ a · tip ⊕ b · outer)
  outer_is_unique = (h.0, h.2.0, not_zero, q)
    where
      h : InSpan s (tip ∷ outer ∷ []) outer'
      h = through s (vectors line (e ∷ [])) (tip ∷ outer ∷ []) outer' x.line_in (y.tip_outer_in.each outer' (inr (inl refl)))

      q : outer' ≡ h.0 · tip ⊕ h.2.0 · outer
      q = h.3 ∙ ap (λ t. h.0 · tip ⊕ t) (h.2.3 ∙ ap (λ t. h.2.0 · outer ⊕ t) h.2.2) ∙ simp linear

      not_zero : h.2.0 ≢ o
      not_zero z = outer_outside s line M e tip' outer' cs' y (subst (λ t. InSpan s (vectors line M) t) (sym (q ∙ ap (λ t. h.0 · tip ⊕ t · outer) z ∙ simp linear)) (span_scale f s (vectors line M) h.0 tip (tip_in_span s line M e tip outer cs x)))

  -- the coordinates are the same but for that factor
  pub tip_coordinates : (a : K) × (a ≢ o) × (cs' ≡ map (scaled f a) cs)
  tip_coordinates = let r = tip_is_unique in (
    r.0,
    r.1,
    unique_coordinates s line M cs' (map (scaled f r.0) cs) (exposed_base s line M e tip outer cs x) y.length_cs (length-map cs (scaled f r.0) ∙ x.length_cs)
        (y.combines ∙ r.2 ∙ sym (line_combination-scaled s line r.0 cs M ∙ ap (λ t. r.0 · t) x.combines)),
  )

  -- so the support does not depend on the choice of a tip
  pub same_support : (m : ℕ) → InSupport f m cs M → InSupport f m cs' M
  same_support m i = let r = tip_coordinates in subst (λ ds. InSupport f m ds M) (sym r.2) (support_scaled f r.0 m cs M r.1 i)

-- the outers of two exposed lines are independent over M for any choice, or for none
module _ {K V : Type 0} {f : Field K} (s : Space f V) (line : ℕ → V × V) (M : List ℕ) (e : ℕ) (tip outer : V) (cs : List (K × K))
    (x : Exposed s line M e tip outer cs) (tip' outer' : V) (cs' : List (K × K)) (y : Exposed s line M e tip' outer' cs') (h : ℕ) (u w : V)
    (ds : List (K × K)) (z : Exposed s line M h u w ds) (u' w' : V) (ds' : List (K × K)) (t : Exposed s line M h u' w' ds') where
  -- the outers of e and h are missed together, whichever they are
  pub same_outers : IsIndependent s (vectors line M ++ outer ∷ w ∷ []) → IsIndependent s (vectors line M ++ outer' ∷ w' ∷ [])
  same_outers i =
      let a : InSpan s (vectors line M ++ outer' ∷ []) outer = through s (vectors line (e ∷ [])) (vectors line M ++ outer' ∷ []) outer (exposed_within s line M e tip' outer' cs' y) (x.tip_outer_in.each outer (inr (inl refl))) in
      let b : InSpan s (vectors line M ++ w' ∷ []) w = through s (vectors line (h ∷ [])) (vectors line M ++ w' ∷ []) w (exposed_within s line M h u' w' ds' t) (z.tip_outer_in.each w (inr (inl refl))) in
      let a' : InSpan s (vectors line M ++ outer' ∷ w' ∷ []) outer = through s (vectors line M ++ outer' ∷ []) (vectors line M ++ outer' ∷ w' ∷ []) outer (search placing depth 8) a in
      let b' : InSpan s (vectors line M ++ outer' ∷ w' ∷ []) w = through s (vectors line M ++ w' ∷ []) (vectors line M ++ outer' ∷ w' ∷ []) w (search placing depth 8) b in
      same_length_independent s (vectors line M ++ outer ∷ w ∷ []) (vectors line M ++ outer' ∷ w' ∷ []) i (search (a', b', placing) depth 8) (omega (arith, length-append {A = V}))
