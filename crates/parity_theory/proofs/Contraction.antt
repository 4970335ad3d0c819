-- Lines modulo a point: what is independent there, and which line may be left out for the point.
use Rattle.std.proofs.Common.{◌≡◌, ◌≢◌, ℕ, suc, ◌≤◌, ◌⊎◌, inl, inr, List, [], ◌∷◌, ◌++◌, map, length, refl, sym, ap, ◌∙◌, subst, arith}
use Rattle.std.proofs.lemmas.List.{length-append}
use Rattle.parity_theory.proofs.Coordinates.{line_combination_of_span, pivot_line}
use Rattle.parity_theory.proofs.Entries.{at_split}
use Rattle.parity_theory.proofs.LineSets.{independent_distinct}
use Rattle.parity_theory.proofs.Lines.{vectors, line_combination, Misses}
use Rattle.parity_theory.proofs.Positions.{length-vectors, within_lines}
use Rattle.parity_theory.proofs.Supports.{InSupport, SupportIn, support_in_or_not, gathered}
use Rattle.vector_spaces.proofs.Distinct.{IsDistinct, distinct_middle}
use Rattle.vector_spaces.proofs.Independence.{IsIndependent, same_length_independent, independent_right}
use Rattle.vector_spaces.proofs.Members.{In, decide_in}
use Rattle.vector_spaces.proofs.Middles.{length-middle, middle_in, in_others}
use Rattle.vector_spaces.proofs.Quotients.{Quotient, independent_to_quotient, independent_from_quotient}
use Rattle.vector_spaces.proofs.Space.{Field, Space}
use Rattle.vector_spaces.proofs.Span.{InSpan}
use Rattle.vector_spaces.proofs.Within.{Within, placing}

-- the lines with both vectors mapped by g
abbrev pub mapped : {V W : Type 0} → (V → W) → (ℕ → V × V) → ℕ → W × W
mapped g line m = (g (line m).0, g (line m).1)

-- their vectors are the images
pub vectors-mapped : {V W : Type 0} (g : V → W) (line : ℕ → V × V) (M : List ℕ) → vectors (mapped g line) M ≡ map g (vectors line M)
vectors-mapped g line [] = refl
vectors-mapped g line (m ∷ M) = ap (λ vs. g (line m).0 ∷ g (line m).1 ∷ vs) (vectors-mapped g line M)

module _ {K V W : Type 0} {f : Field K} (s : Space f V) (t : Space f W) (p : V) (q : Quotient s t p) (line : ℕ → V × V) where
  -- lines are independent modulo the point exactly where they miss it
  pub misses_of_quotient : (L : List ℕ) → IsIndependent t (vectors (mapped q.project line) L) → Misses s line L (p ∷ [])
  misses_of_quotient L i =
      let j : IsIndependent s (p ∷ vectors line L) = independent_from_quotient s t p q (vectors line L) (subst (λ ws. IsIndependent t ws) (vectors-mapped q.project line L) i) in
      same_length_independent s (p ∷ vectors line L) (vectors line L ++ p ∷ []) j (search placing) (omega (arith, length-append {A = V}))

  pub quotient_of_misses : (L : List ℕ) → Misses s line L (p ∷ []) → IsIndependent t (vectors (mapped q.project line) L)
  quotient_of_misses L i =
      let j : IsIndependent s (p ∷ vectors line L) = same_length_independent s (vectors line L ++ p ∷ []) (p ∷ vectors line L) i (search placing) (omega (arith, length-append {A = V})) in
      subst (λ ws. IsIndependent t ws) (sym (vectors-mapped q.project line L)) (independent_to_quotient s t p q (vectors line L) j)

module _ {K V : Type 0} {f : Field K} (s : Space f V) (line : ℕ → V × V) where
  -- the lines but one of the point's support miss the point
  pub drop_support_line : (M N : List ℕ) (m : ℕ) (p : V) (cs : List (K × K)) → IsIndependent s (vectors line M) → line_combination s line cs M ≡ p → InSupport f m cs M →
      ((l : ℕ) → In l M → l ≢ m → In l N) → suc (length N) ≤ length M → Misses s line N (p ∷ [])
  drop_support_line M N m p cs i e (a, at, n) into k =
      let r = at_split m a M cs at in
      go r.0 r.1 r.2 r.3 (subst (λ t. IsIndependent s (vectors line t)) r.4 i) (subst (λ t. (l : ℕ) → In l t → l ≢ m → In l N) r.4 into) (subst (λ t. suc (length N) ≤ length t) r.4 k)
      (ap (λ t. line_combination s line t (r.0 ++ m ∷ r.1)) (sym r.5) ∙ ap (λ t. line_combination s line cs t) (sym r.4) ∙ e) r.6
    where
      go : (P Q : List ℕ) (c d : List (K × K)) → IsIndependent s (vectors line (P ++ m ∷ Q)) → ((l : ℕ) → In l (P ++ m ∷ Q) → l ≢ m → In l N) → suc (length N) ≤ length (P ++ m ∷ Q) → line_combination s line (c ++ a ∷ d) (P ++ m ∷ Q) ≡ p → length c ≡ length P → Misses s line N (p ∷ [])
      go P Q c d i into k e lc =
          let r = pivot_line s line P m Q c a d p lc e n in
          let y : V = r.0 in
          let e1 = length-vectors line (P ++ m ∷ Q) in
          let e2 = length-vectors line (P ++ Q) in
          let e3 = length-middle P m Q in
          let e4 = length-vectors line N in
          let e5 = length-append (vectors line N) (p ∷ []) in
          let j : IsIndependent s (y ∷ p ∷ vectors line (P ++ Q)) = same_length_independent s (vectors line (P ++ m ∷ Q)) (y ∷ p ∷ vectors line (P ++ Q)) i r.1 (omega arith) in
          let d : IsDistinct (P ++ m ∷ Q) = independent_distinct s line (P ++ m ∷ Q) i in
          let w : Within s (vectors line (P ++ Q)) (vectors line N) = within_lines s line (P ++ Q) N (λ l q. into l (middle_in P m Q l (inr q)) (λ z. distinct_middle P m Q d (subst (λ t. In t (P ++ Q)) z q))) in
          same_length_independent s (p ∷ vectors line (P ++ Q)) (vectors line N ++ p ∷ []) (independent_right s (y ∷ []) (p ∷ vectors line (P ++ Q)) j) (search placing) (omega arith)

  -- a point of the span of M that R does not span has a line in its support that is none of R
  pub support_line_outside : (R M : List ℕ) (p : V) → InSpan s (vectors line M) p → ¬ (InSpan s (vectors line R) p) →
      (cs : List (K × K)) × (m : ℕ) × (line_combination s line cs M ≡ p) × InSupport f m cs M × ¬ (In m R)
  support_line_outside R M p h n =
      let r = line_combination_of_span s line M p h in
      go r.0 r.2 (support_in_or_not f (λ m. In m R) (λ m. decide_in m R) r.0 M)
    where
      go : (cs : List (K × K)) → line_combination s line cs M ≡ p → SupportIn f (λ m. In m R) cs M ⊎ ((m : ℕ) × InSupport f m cs M × ¬ (In m R)) → (cs : List (K × K)) × (m : ℕ) × (line_combination s line cs M ≡ p) × InSupport f m cs M × ¬ (In m R)
      go cs e (inl k) = absurd (n (subst (λ v. InSpan s (vectors line R) v) e (gathered s line R cs M k)))
      go cs e (inr r) = (cs, r.0, e, r.1, r.2)

  -- so all lines of M but one, which is none of R, miss the point
  pub drop_outside : (R M : List ℕ) (p : V) → IsIndependent s (vectors line M) → InSpan s (vectors line M) p → ¬ (InSpan s (vectors line R) p) →
      (N : List ℕ) × (suc (length N) ≡ length M) × ((l : ℕ) → In l N → In l M) × ((l : ℕ) → In l M → In l R → In l N) × Misses s line N (p ∷ [])
  drop_outside R M p i h n =
      let r = support_line_outside R M p h n in
      let t = at_split r.1 r.3.0 M r.0 r.3.1 in
      let kept : (l : ℕ) → In l M → l ≢ r.1 → In l (t.0 ++ t.1) = λ l j z. in_others t.0 r.1 t.1 l (subst (λ L. In l L) t.4 j) z in
      let count : suc (length (t.0 ++ t.1)) ≡ length M = sym (ap length t.4 ∙ length-middle t.0 r.1 t.1) in (
        t.0 ++ t.1,
        count,
        λ l j. subst (λ L. In l L) (sym t.4) (middle_in t.0 r.1 t.1 l (inr j)),
        λ l j k. kept l j (λ z. r.4 (subst (λ m. In m R) z k)),
        drop_support_line M (t.0 ++ t.1) r.1 p r.0 i r.2 r.3 kept (omega arith),
      )

-- and those lines are independent modulo the point
module _ {K V W : Type 0} {f : Field K} (s : Space f V) (t : Space f W) (p : V) (q : Quotient s t p) (line : ℕ → V × V) where
  pub drop_modulo_point : (M N : List ℕ) (m : ℕ) (cs : List (K × K)) → IsIndependent s (vectors line M) → line_combination s line cs M ≡ p → InSupport f m cs M →
      ((l : ℕ) → In l M → l ≢ m → In l N) → suc (length N) ≤ length M → IsIndependent t (vectors (mapped q.project line) N)
  drop_modulo_point M N m cs i e h into k = quotient_of_misses s t p q line N (drop_support_line s line M N m p cs i e h into k)
