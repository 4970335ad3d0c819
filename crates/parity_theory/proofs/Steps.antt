-- Two exposed lines take the place of one line: the determinant of their tips' components there tells when.
use Rattle.std.proofs.Common.{◌≡◌, ◌≢◌, ℕ, suc, ◌≤◌, ◌⊎◌, inl, inr, List, [], ◌∷◌, ◌++◌, length, refl, sym, ap₂, ◌∙◌, subst, arith}
use Rattle.std.proofs.lemmas.List.{length-append}
use Rattle.parity_theory.proofs.Coordinates.{span_of_line_combination, line_combination-middle}
use Rattle.parity_theory.proofs.Exposure.{Exposed, IsExposed, exposed_within}
use Rattle.parity_theory.proofs.Lines.{vectors, line_combination, Misses, IsFree}
use Rattle.parity_theory.proofs.Places.{place_of_two, near_line}
use Rattle.parity_theory.proofs.Positions.{length-missing, length-vectors, within_line, within_lines, within_middle}
use Rattle.vector_spaces.proofs.Determinants.{determinant, AreProportional, nonzero_or_proportional, solve_pair}
use Rattle.vector_spaces.proofs.Independence.{IsIndependent, counting_bound, same_length_independent, independent_left, independent_right, span_decidable}
use Rattle.vector_spaces.proofs.Members.{In}
use Rattle.vector_spaces.proofs.Middles.{length-middle, middle_in}
use Rattle.vector_spaces.proofs.Pairs.{nonzero_not_zero}
use Rattle.vector_spaces.proofs.Space.{Field, Space, linear, move}
use Rattle.vector_spaces.proofs.Span.{InSpan, span_plus, span_scale, span_minus, zeros_of_outside}
use Rattle.vector_spaces.proofs.Splits.{common_is_null}
use Rattle.vector_spaces.proofs.Within.{Within, within_append, within_cons, placing, within_trans, within_left, through}

module _ {K V : Type 0} {f : Field K} (s : Space f V) (line : ℕ → V × V) where
  infixl 65 ◌⊞◌
  infixl 70 ◌⊠◌
  infixl 65 ◌⊕◌
  infixl 70 ◌·◌
  open f use {zero as o, one, minus, ◌⊞◌, ◌⊠◌, inv}
  open s use {null, ◌⊕◌, ◌·◌}

  -- the component of a tip at m, in a span that has the tip and the other lines
  component_in : (P : List ℕ) (m : ℕ) (Q : List ℕ) (c : List (K × K)) (p : K × K) (d : List (K × K)) (tip : V) (W : List V) → length c ≡ length P → line_combination s line (c ++ p ∷ d) (P ++ m ∷ Q) ≡ tip → InSpan s W tip → Within s (vectors line (P ++ Q)) W → InSpan s W (p.0 · (line m).0 ⊕ p.1 · (line m).1)
  component_in P m Q c p d tip W e h ht hw =
      let r : V = line_combination s line (c ++ d) (P ++ Q) in
      subst (λ x. InSpan s W x) (move f s tip r (p.0 · (line m).0 ⊕ p.1 · (line m).1) (sym h ∙ line_combination-middle s line P m Q c p d e))
      (span_minus f s W tip r ht (through s (vectors line (P ++ Q)) W r hw (span_of_line_combination s line (c ++ d) (P ++ Q))))

  -- e and h take the place of m
  pub two_line_step : (P : List ℕ) (m : ℕ) (Q N : List ℕ) (e h : ℕ) (tip outer : V) (c : List (K × K)) (p : K × K) (d : List (K × K)) (tip' outer' : V) (c' : List (K × K)) (p' : K × K) (d' : List (K × K)) →
      Exposed s line (P ++ m ∷ Q) e tip outer (c ++ p ∷ d) → length c ≡ length P → Exposed s line (P ++ m ∷ Q) h tip' outer' (c' ++ p' ∷ d') → length c' ≡ length P →
      Misses s line (P ++ m ∷ Q) (outer ∷ outer' ∷ []) → determinant f p p' ≢ o →
      ((l : ℕ) → In l (e ∷ h ∷ P ++ Q) → In l N) → length N ≤ suc (length (P ++ m ∷ Q)) → IsIndependent s (vectors line N)
  two_line_step P m Q N e h tip outer c p d tip' outer' c' p' d' x lc y lc' i n into k =
      let W : List V = tip ∷ outer ∷ tip' ∷ outer' ∷ vectors line (P ++ Q) in
      let rest : Within s (vectors line (P ++ Q)) W = search placing in
      let both = solve_pair s (line m).0 (line m).1 p p' W n (component_in P m Q c p d tip W lc x.combines (search placing) rest) (component_in P m Q c' p' d' tip' W lc' y.combines (search placing) rest) in
      let h0 : InSpan s W (line m).0 = both.0 in
      let h1 : InSpan s W (line m).1 = both.1 in
      let lines : Within s (vectors line (P ++ m ∷ Q)) W = within_trans s (vectors line (P ++ m ∷ Q)) (vectors line (m ∷ P ++ Q)) W (within_middle s line P m Q) (within_cons s (line m).0 ((line m).1 ∷ vectors line (P ++ Q)) W h0 (within_cons s (line m).1 (vectors line (P ++ Q)) W h1 rest)) in
      let j : IsIndependent s W = same_length_independent s (vectors line (P ++ m ∷ Q) ++ outer ∷ outer' ∷ []) W i (within_append s (vectors line (P ++ m ∷ Q)) (outer ∷ outer' ∷ []) W lines (search placing depth 12))
      (let e1 = length-missing line (P ++ m ∷ Q) (outer ∷ outer' ∷ []) in let e2 = length-vectors line (P ++ Q) in let e3 = length-middle P m Q in omega arith) in
      let a : Within s (tip ∷ outer ∷ []) (vectors line N) = within_trans s (tip ∷ outer ∷ []) (vectors line (e ∷ [])) (vectors line N) x.tip_outer_in (within_line s line e N (into e (inl refl))) in
      let b : Within s (tip' ∷ outer' ∷ []) (vectors line N) = within_trans s (tip' ∷ outer' ∷ []) (vectors line (h ∷ [])) (vectors line N) y.tip_outer_in (within_line s line h N (into h (inr (inl refl)))) in
      let g : Within s (vectors line (P ++ Q)) (vectors line N) = within_lines s line (P ++ Q) N (λ l q. into l (inr (inr q))) in
      same_length_independent s W (vectors line N) j (within_append s (tip ∷ outer ∷ []) (tip' ∷ outer' ∷ vectors line (P ++ Q)) (vectors line N) a (within_append s (tip' ∷ outer' ∷ []) (vectors line (P ++ Q)) (vectors line N) b g))
      (let e1 = length-vectors line N in let e2 = length-vectors line (P ++ Q) in let e3 = length-middle P m Q in omega arith)

  -- two lines within M and one vector more leave no room for both in place of m
  crowded : (P : List ℕ) (m : ℕ) (Q : List ℕ) (e h : ℕ) (x : V) → Within s (vectors line (e ∷ [])) (vectors line (P ++ m ∷ Q) ++ x ∷ []) → Within s (vectors line (h ∷ [])) (vectors line (P ++ m ∷ Q) ++ x ∷ []) → ¬ (IsIndependent s (vectors line (e ∷ h ∷ P ++ Q)))
  crowded P m Q e h x we wh i =
      let rest : Within s (vectors line (P ++ Q)) (vectors line (P ++ m ∷ Q) ++ x ∷ []) = within_left s (vectors line (P ++ Q)) (vectors line (P ++ m ∷ Q)) (x ∷ []) (within_lines s line (P ++ Q) (P ++ m ∷ Q) (λ l j. middle_in P m Q l (inr j))) in
      let b = counting_bound s (vectors line (e ∷ h ∷ P ++ Q)) (vectors line (P ++ m ∷ Q) ++ x ∷ []) i (within_append s (vectors line (e ∷ [])) (vectors line (h ∷ P ++ Q)) (vectors line (P ++ m ∷ Q) ++ x ∷ []) we (within_append s (vectors line (h ∷ [])) (vectors line (P ++ Q)) (vectors line (P ++ m ∷ Q) ++ x ∷ []) wh rest)) in
      let e1 = length-missing line (P ++ m ∷ Q) (x ∷ []) in
      let e2 = length-vectors line (e ∷ h ∷ P ++ Q) in
      let e3 = length-middle P m Q in
      absurd (omega arith)

  -- if e and h can take the place of m, then their outers are missed together
  pub two_line_step-outers : (P : List ℕ) (m : ℕ) (Q : List ℕ) (e h : ℕ) (tip outer : V) (cs : List (K × K)) (tip' outer' : V) (cs' : List (K × K)) →
      Exposed s line (P ++ m ∷ Q) e tip outer cs → Exposed s line (P ++ m ∷ Q) h tip' outer' cs' → IsIndependent s (vectors line (e ∷ h ∷ P ++ Q)) → Misses s line (P ++ m ∷ Q) (outer ∷ outer' ∷ [])
  two_line_step-outers P m Q e h tip outer cs tip' outer' cs' x y i = go (span_decidable s (vectors line (P ++ m ∷ Q) ++ outer ∷ []) outer' x.apart)
    where
      go : InSpan s (vectors line (P ++ m ∷ Q) ++ outer ∷ []) outer' ⊎ IsIndependent s ((vectors line (P ++ m ∷ Q) ++ outer ∷ []) ++ outer' ∷ []) → Misses s line (P ++ m ∷ Q) (outer ∷ outer' ∷ [])
      go (inl c) = absurd (crowded P m Q e h outer (exposed_within s line (P ++ m ∷ Q) e tip outer cs x)
          (within_trans s (vectors line (h ∷ [])) (vectors line (P ++ m ∷ Q) ++ outer' ∷ []) (vectors line (P ++ m ∷ Q) ++ outer ∷ []) (exposed_within s line (P ++ m ∷ Q) h tip' outer' cs' y) (search (c, placing))) i)
      go (inr j) = same_length_independent s ((vectors line (P ++ m ∷ Q) ++ outer ∷ []) ++ outer' ∷ []) (vectors line (P ++ m ∷ Q) ++ outer ∷ outer' ∷ []) j (search placing depth 12) (omega (arith, length-append {A = V}))

  proportional_sum : (u v r t : V) (a b : K × K) (g k : K) → g ⊠ a.0 ⊞ k ⊠ b.0 ≡ o → g ⊠ a.1 ⊞ k ⊠ b.1 ≡ o → g · (a.0 · u ⊕ a.1 · v ⊕ r) ⊕ k · (b.0 · u ⊕ b.1 · v ⊕ t) ≡ g · r ⊕ k · t
  proportional_sum u v r t a b g k q q' = gather ∙ ap₂ (λ z w. z · u ⊕ w · v ⊕ (g · r ⊕ k · t)) q q' ∙ simp linear
    where
      gather : g · (a.0 · u ⊕ a.1 · v ⊕ r) ⊕ k · (b.0 · u ⊕ b.1 · v ⊕ t) ≡ (g ⊠ a.0 ⊞ k ⊠ b.0) · u ⊕ (g ⊠ a.1 ⊞ k ⊠ b.1) · v ⊕ (g · r ⊕ k · t)
      gather = simp linear

  -- and the determinant of their tips' components at m is not zero
  pub two_line_step-determinant : (P : List ℕ) (m : ℕ) (Q : List ℕ) (e h : ℕ) (tip outer : V) (c : List (K × K)) (p : K × K) (d : List (K × K)) (tip' outer' : V) (c' : List (K × K)) (p' : K × K) (d' : List (K × K)) →
      Exposed s line (P ++ m ∷ Q) e tip outer (c ++ p ∷ d) → length c ≡ length P → Exposed s line (P ++ m ∷ Q) h tip' outer' (c' ++ p' ∷ d') → length c' ≡ length P →
      IsIndependent s (vectors line (e ∷ h ∷ P ++ Q)) → determinant f p p' ≢ o
  two_line_step-determinant P m Q e h tip outer c p d tip' outer' c' p' d' x lc y lc' i = go (nonzero_or_proportional f p p')
    where
      go : (determinant f p p' ≢ o) ⊎ AreProportional f p p' → determinant f p p' ≢ o
      go (inl n) = n
      go (inr r) =
          let g : V = line_combination s line (c ++ d) (P ++ Q) in
          let g' : V = line_combination s line (c' ++ d') (P ++ Q) in
          let z : V = r.0 · tip ⊕ r.1 · tip' in
          let e1 : tip ≡ p.0 · (line m).0 ⊕ p.1 · (line m).1 ⊕ g = sym x.combines ∙ line_combination-middle s line P m Q c p d lc in
          let e2 : tip' ≡ p'.0 · (line m).0 ⊕ p'.1 · (line m).1 ⊕ g' = sym y.combines ∙ line_combination-middle s line P m Q c' p' d' lc' in
          let e3 : z ≡ r.0 · g ⊕ r.1 · g' = ap₂ (λ t u. r.0 · t ⊕ r.1 · u) e1 e2 ∙ proportional_sum (line m).0 (line m).1 g g' p p' r.0 r.1 r.3 r.4 in
          let low : InSpan s (vectors line (P ++ Q)) z = subst (λ t. InSpan s (vectors line (P ++ Q)) t) (sym e3) (span_plus f s (vectors line (P ++ Q)) (r.0 · g) (r.1 · g')
          (span_scale f s (vectors line (P ++ Q)) r.0 g (span_of_line_combination s line (c ++ d) (P ++ Q))) (span_scale f s (vectors line (P ++ Q)) r.1 g' (span_of_line_combination s line (c' ++ d') (P ++ Q)))) in
          let high : InSpan s (tip ∷ tip' ∷ []) z = (r.0, r.1 · tip', (r.1, null, refl, simp linear), refl) in
          let W : List V = outer ∷ outer' ∷ tip ∷ tip' ∷ vectors line (P ++ Q) in
          let we : Within s (vectors line (e ∷ [])) W = within_trans s (vectors line (e ∷ [])) (tip ∷ outer ∷ []) W x.line_in (search placing depth 12) in
          let wh : Within s (vectors line (h ∷ [])) W = within_trans s (vectors line (h ∷ [])) (tip' ∷ outer' ∷ []) W y.line_in (search placing depth 12) in
          let j : IsIndependent s W = same_length_independent s (vectors line (e ∷ h ∷ P ++ Q)) W i
          (within_append s (vectors line (e ∷ [])) (vectors line (h ∷ P ++ Q)) W we (within_append s (vectors line (h ∷ [])) (vectors line (P ++ Q)) W wh (search placing depth 12))) (omega arith) in
          let k : IsIndependent s (tip ∷ tip' ∷ vectors line (P ++ Q)) = independent_right s (outer ∷ outer' ∷ []) (tip ∷ tip' ∷ vectors line (P ++ Q)) j in
          let flat : z ≡ null = common_is_null s (tip ∷ tip' ∷ []) (vectors line (P ++ Q)) z k high low in
          let pair : IsIndependent s (tip ∷ tip' ∷ []) = independent_left s (tip ∷ tip' ∷ []) (vectors line (P ++ Q)) k in
          absurd (nonzero_not_zero f (r.0, r.1) r.2 (zeros_of_outside f s [] tip tip' r.0 r.1 pair.0 pair.1.0 flat))

  -- an independent line that is not free and not within M is exposed
  pub exposed_of : (M : List ℕ) (e : ℕ) → IsIndependent s (vectors line M) → IsIndependent s (vectors line (e ∷ [])) → ¬ (IsFree s line M e) → ¬ (Within s (vectors line (e ∷ [])) (vectors line M)) → IsExposed s line M e
  exposed_of M e i j nf nw = elim (place_of_two s line M e i j) [ inl w ↦ absurd (nw w) | inr r ↦ elim r [ inl x ↦ x | inr k ↦ absurd (nf k) ] ]

  -- if e and h can take the place of m, and neither is free, then both are exposed
  pub two_line_step-exposed : (P : List ℕ) (m : ℕ) (Q : List ℕ) (e h : ℕ) → IsIndependent s (vectors line (P ++ m ∷ Q)) → ¬ (IsFree s line (P ++ m ∷ Q) e) → ¬ (IsFree s line (P ++ m ∷ Q) h) → IsIndependent s (vectors line (e ∷ h ∷ P ++ Q)) →
      IsExposed s line (P ++ m ∷ Q) e × IsExposed s line (P ++ m ∷ Q) h
  two_line_step-exposed P m Q e h i ne nh j = (
    exposed_of (P ++ m ∷ Q) e i (independent_left s (vectors line (e ∷ [])) (vectors line (h ∷ P ++ Q)) j) ne (λ w. let r = near_line s line (P ++ m ∷ Q) h i nh in crowded P m Q e h r.0 (within_left s (vectors line (e ∷ [])) (vectors line (P ++ m ∷ Q)) (r.0 ∷ []) w) r.1 j),
    exposed_of (P ++ m ∷ Q) h i (independent_left s (vectors line (h ∷ [])) (vectors line (P ++ Q)) (independent_right s (vectors line (e ∷ [])) (vectors line (h ∷ P ++ Q)) j)) nh (λ w. let r = near_line s line (P ++ m ∷ Q) e i ne in crowded P m Q e h r.0 r.1 (within_left s (vectors line (h ∷ [])) (vectors line (P ++ m ∷ Q)) (r.0 ∷ []) w) j),
  )
