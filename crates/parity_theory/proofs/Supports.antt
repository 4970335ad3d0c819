-- The support of coordinates over a list of lines: the lines at which the pair is not zero.
use Rattle.std.proofs.Common.{◌≡◌, ◌≢◌, ℕ, ◌⊎◌, inl, inr, List, [], ◌∷◌, ◌++◌, length, map, Bool, true, refl, sym, ◌∙◌, subst, arith}
use Rattle.std.specs.List.{filter}
use Rattle.std.specs.Prelude.{⊤}
use Rattle.std.proofs.Math.Decide.{ℕ_discrete}
use Rattle.parity_theory.proofs.Coordinates.{line_combination-none, line_combination-nil, line_combination-cons, line_combination-middle, line_combining, span_of_line_combination, pivot_line}
use Rattle.parity_theory.proofs.Entries.{map_at, At}
use Rattle.parity_theory.proofs.Lines.{vectors, line_combination}
use Rattle.parity_theory.proofs.Positions.{length-vectors, within_lines, filter_in}
use Rattle.vector_spaces.proofs.Independence.{IsIndependent, counting_bound}
use Rattle.vector_spaces.proofs.Members.{In}
use Rattle.vector_spaces.proofs.Middles.{length-middle}
use Rattle.vector_spaces.proofs.Pairs.{IsZero, NonZero, scaled, zero_or_nonzero, nonzero_not_zero, scaled_nonzero}
use Rattle.vector_spaces.proofs.Space.{Field, Space, linear}
use Rattle.vector_spaces.proofs.Span.{InSpan}
use Rattle.vector_spaces.proofs.Within.{through, placing, within_trans}

-- m is a line of M at which the pair of cs is not zero
abbrev pub InSupport : {K : Type 0} → Field K → ℕ → List (K × K) → List ℕ → Type 0
InSupport {K} f m cs M = (p : K × K) × At m p M cs × NonZero f p

-- the same line is in the support of both
abbrev pub HaveCommonLine : {K : Type 0} → Field K → List (K × K) → List (K × K) → List ℕ → Type 0
HaveCommonLine f cs ds M = (m : ℕ) × InSupport f m cs M × InSupport f m ds M

-- each line of M has the property P, or its pair is zero
abbrev pub SupportIn : {K : Type 0} → Field K → (ℕ → Type 0) → List (K × K) → List ℕ → Type 0
SupportIn f P [] M = ⊤
SupportIn f P (c ∷ cs) [] = ⊤
SupportIn f P (c ∷ cs) (m ∷ M) = (P m ⊎ IsZero f c) × SupportIn f P cs M

module _ {K : Type 0} (f : Field K) where
  open f use {zero as o}

  -- that is, each line of the support has P
  pub support_in_each : (P : ℕ → Type 0) (cs : List (K × K)) (M : List ℕ) → SupportIn f P cs M → (m : ℕ) → InSupport f m cs M → P m
  support_in_each P [] [] h m i = absurd i.1
  support_in_each P [] (l ∷ M) h m i = absurd i.1
  support_in_each P (c ∷ cs) [] h m i = absurd i.1
  support_in_each P (c ∷ cs) (l ∷ M) h m (p, inr i, n) = support_in_each P cs M h.1 m (p, i, n)
  support_in_each P (c ∷ cs) (l ∷ M) h m (p, inl e, n) = elim h.0 [ inl j ↦ subst P (sym e.0) j | inr z ↦ absurd (nonzero_not_zero f p n (subst (IsZero f) (sym e.1) z)) ]

  -- all lines of the support have P, or some line does not
  pub support_in_or_not : (P : ℕ → Type 0) → ((m : ℕ) → Dec (P m)) → (cs : List (K × K)) (M : List ℕ) → SupportIn f P cs M ⊎ ((m : ℕ) × InSupport f m cs M × ¬ (P m))
  support_in_or_not P d [] M = inl tt
  support_in_or_not P d (c ∷ cs) [] = inl tt
  support_in_or_not P d (c ∷ cs) (m ∷ M) = go (d m) (zero_or_nonzero f c) (support_in_or_not P d cs M)
    where
      go : Dec (P m) → IsZero f c ⊎ NonZero f c → SupportIn f P cs M ⊎ ((l : ℕ) × InSupport f l cs M × ¬ (P l)) → SupportIn f P (c ∷ cs) (m ∷ M) ⊎ ((l : ℕ) × InSupport f l (c ∷ cs) (m ∷ M) × ¬ (P l))
      go e z (inr r) = inr (r.0, (r.1.0, inr r.1.1, r.1.2), r.2)
      go (yes i) z (inl h) = inl (inl i, h)
      go (no n) (inl z) (inl h) = inl (inr z, h)
      go (no n) (inr k) (inl h) = inr (m, (c, inl (refl, refl), k), n)

  pub support_in_of : (P : ℕ → Type 0) (cs : List (K × K)) (M : List ℕ) → ((m : ℕ) → InSupport f m cs M → P m) → SupportIn f P cs M
  support_in_of P [] M h = tt
  support_in_of P (c ∷ cs) [] h = tt
  support_in_of P (c ∷ cs) (m ∷ M) h = (go (zero_or_nonzero f c), support_in_of P cs M (λ l i. h l (i.0, inr i.1, i.2)))
    where
      go : IsZero f c ⊎ NonZero f c → P m ⊎ IsZero f c
      go (inl z) = inr z
      go (inr n) = inl (h m (c, inl (refl, refl), n))

  -- whether m is in the support, and whether two supports have a common line
  pub decide_support : (m : ℕ) (cs : List (K × K)) (M : List ℕ) → Dec (InSupport f m cs M)
  decide_support m cs M = go (support_in_or_not (λ l. l ≢ m) differs cs M)
    where
      differs : (l : ℕ) → Dec (l ≢ m)
      differs l = elim (ℕ_discrete l m) [ yes e ↦ no (λ n. n e) | no n ↦ yes n ]

      go : SupportIn f (λ l. l ≢ m) cs M ⊎ ((l : ℕ) × InSupport f l cs M × ¬ (l ≢ m)) → Dec (InSupport f m cs M)
      go (inl h) = no (λ i. support_in_each (λ l. l ≢ m) cs M h m i refl)
      go (inr r) = elim (ℕ_discrete r.0 m) [ yes e ↦ yes (subst (λ l. InSupport f l cs M) e r.1) | no n ↦ absurd (r.2 n) ]

  pub decide_common_line : (cs ds : List (K × K)) (M : List ℕ) → Dec (HaveCommonLine f cs ds M)
  decide_common_line cs ds M = go (support_in_or_not (λ m. ¬ (InSupport f m ds M)) missing cs M)
    where
      missing : (m : ℕ) → Dec (¬ (InSupport f m ds M))
      missing m = elim (decide_support m ds M) [ yes i ↦ no (λ n. n i) | no n ↦ yes n ]

      go : SupportIn f (λ m. ¬ (InSupport f m ds M)) cs M ⊎ ((m : ℕ) × InSupport f m cs M × ¬ (¬ (InSupport f m ds M))) → Dec (HaveCommonLine f cs ds M)
      go (inl h) = no (λ k. support_in_each (λ m. ¬ (InSupport f m ds M)) cs M h k.0 k.1 k.2)
      go (inr r) = elim (decide_support r.0 ds M) [ yes i ↦ yes (r.0, r.1, i) | no n ↦ absurd (r.2 n) ]

  -- a multiple by a factor that is not zero has the same support
  pub support_scaled : (a : K) (m : ℕ) (cs : List (K × K)) (M : List ℕ) → a ≢ o → InSupport f m cs M → InSupport f m (map (scaled f a) cs) M
  support_scaled a m cs M n i = (scaled f a i.0, map_at (scaled f a) m i.0 M cs i.1, scaled_nonzero f a i.0 n i.2)

module _ {K V : Type 0} {f : Field K} (s : Space f V) (line : ℕ → V × V) where
  infixl 65 ◌⊕◌
  infixl 70 ◌·◌
  open f use {zero as o}
  open s use {null, ◌⊕◌, ◌·◌}

  -- the lines of M that carry a vector whose support has P
  pub gather : (P : ℕ → Type 0) (cs : List (K × K)) (M : List ℕ) → SupportIn f P cs M → (Y : List ℕ) × ((m : ℕ) → In m Y → In m M × P m) × InSpan s (vectors line Y) (line_combination s line cs M)
  gather P [] M h = ([], λ m i. absurd i, line_combination-none s line M)
  gather P (c ∷ cs) [] h = ([], λ m i. absurd i, line_combination-nil s line (c ∷ cs))
  gather P (c ∷ cs) (m ∷ M) h = go h.0 (gather P cs M h.1)
    where
      go : P m ⊎ IsZero f c → (Y : List ℕ) × ((n : ℕ) → In n Y → In n M × P n) × InSpan s (vectors line Y) (line_combination s line cs M) →
          (Y : List ℕ) × ((n : ℕ) → In n Y → In n (m ∷ M) × P n) × InSpan s (vectors line Y) (line_combination s line (c ∷ cs) (m ∷ M))
      go (inl t) r = (
        m ∷ r.0,
        λ n i. elim i [ inl e ↦ (inl e, subst P (sym e) t) | inr j ↦ (inr (r.1 n j).0, (r.1 n j).1) ],
        (c.0, c.1 · (line m).1 ⊕ line_combination s line cs M, (c.1, line_combination s line cs M, r.2, refl), simp line_combining),
      )
      go (inr z) r = (r.0, λ n i. (inr (r.1 n i).0, (r.1 n i).1), subst (λ x. InSpan s (vectors line r.0) x) (sym (rw (line_combination-cons s line c cs m M, z.0, z.1) (simp linear))) r.2)

  -- a vector with its support in T is spanned by T
  pub gathered : (T : List ℕ) (cs : List (K × K)) (M : List ℕ) → SupportIn f (λ m. In m T) cs M → InSpan s (vectors line T) (line_combination s line cs M)
  gathered T cs M h = let r = gather (λ m. In m T) cs M h in through s (vectors line r.0) (vectors line T) (line_combination s line cs M) (within_lines s line r.0 T (λ m i. (r.1 m i).1)) r.2

  -- and one whose support passes a test, by the lines of M that pass
  pub gathered_filter : (test : ℕ → Bool) (cs : List (K × K)) (M : List ℕ) → SupportIn f (λ m. test m ≡ true) cs M → InSpan s (vectors line (filter test M)) (line_combination s line cs M)
  gathered_filter test cs M h = let r = gather (λ m. test m ≡ true) cs M h in
      through s (vectors line r.0) (vectors line (filter test M)) (line_combination s line cs M) (within_lines s line r.0 (filter test M) (λ m i. filter_in test M m (r.1 m i).0 (r.1 m i).1)) r.2

  -- over independent lines m is none of the support exactly where the other lines span the vector
  pub span_of_zero : (P : List ℕ) (m : ℕ) (Q : List ℕ) (c : List (K × K)) (p : K × K) (d : List (K × K)) (x : V) → length c ≡ length P → line_combination s line (c ++ p ∷ d) (P ++ m ∷ Q) ≡ x → IsZero f p → InSpan s (vectors line (P ++ Q)) x
  span_of_zero P m Q c p d x e h z = subst (λ t. InSpan s (vectors line (P ++ Q)) t) (sym (sym h ∙ line_combination-middle s line P m Q c p d e ∙ rw (z.0, z.1) (simp linear))) (span_of_line_combination s line (c ++ d) (P ++ Q))

  pub zero_of_span : (P : List ℕ) (m : ℕ) (Q : List ℕ) (c : List (K × K)) (p : K × K) (d : List (K × K)) (x : V) → IsIndependent s (vectors line (P ++ m ∷ Q)) → length c ≡ length P → line_combination s line (c ++ p ∷ d) (P ++ m ∷ Q) ≡ x → InSpan s (vectors line (P ++ Q)) x → IsZero f p
  zero_of_span P m Q c p d x i e h k = go (zero_or_nonzero f p)
    where
      go : IsZero f p ⊎ NonZero f p → IsZero f p
      go (inl z) = z
      go (inr n) = absurd (
          let r = pivot_line s line P m Q c p d x e h n in
          let y : V = r.0 in
          let b = counting_bound s (vectors line (P ++ m ∷ Q)) (y ∷ vectors line (P ++ Q)) i (within_trans s (vectors line (P ++ m ∷ Q)) (y ∷ x ∷ vectors line (P ++ Q)) (y ∷ vectors line (P ++ Q)) r.1 (search (k, placing) depth 8)) in
          let e1 = length-vectors line (P ++ m ∷ Q) in
          let e2 = length-vectors line (P ++ Q) in
          let e3 = length-middle P m Q in
          omega arith)
