-- Wide and narrow lists over an independent list of lines: two of the vectors are missed independently, or no two.
use Rattle.std.proofs.Common.{ℕ, ◌⊎◌, inl, inr, List, [], ◌∷◌, ◌++◌, refl, subst, arith, append-nil, append_assoc}
use Rattle.std.proofs.lemmas.List.{length-append}
use Rattle.parity_theory.proofs.Lines.{vectors, Misses, IsFree}
use Rattle.vector_spaces.proofs.Bases.{has_rank_over}
use Rattle.vector_spaces.proofs.Independence.{IsIndependent, counting_bound, append_independent, independent_append, independent_left, append_outside, regroup, same_length_independent}
use Rattle.vector_spaces.proofs.Members.{In, In-append, In-append_left, In-append_right}
use Rattle.vector_spaces.proofs.Space.{Field, Space}
use Rattle.vector_spaces.proofs.Span.{InSpan, span_member}
use Rattle.vector_spaces.proofs.Within.{Within, placing, through, right_in, within_append, within_cons, within_left, within_nil, within_self}

-- M misses two of the vectors X independently
abbrev pub IsWide : {K V : Type 0} {f : Field K} → Space f V → (ℕ → V × V) → List ℕ → List V → Type 0
IsWide {K} {V} s line M X = (a : V) × (b : V) × In a X × In b X × Misses s line M (a ∷ b ∷ [])

-- X lies in the span of M, or of M and one of X that M misses
abbrev pub IsNarrow : {K V : Type 0} {f : Field K} → Space f V → (ℕ → V × V) → List ℕ → List V → Type 0
IsNarrow {K} {V} s line M X = Within s X (vectors line M) ⊎ ((a : V) × In a X × Misses s line M (a ∷ []) × Within s X (vectors line M ++ a ∷ []))

module _ {K V : Type 0} {f : Field K} (s : Space f V) (line : ℕ → V × V) where
  -- each list is wide or narrow
  pub wide_or_narrow : (M : List ℕ) (X : List V) → IsIndependent s (vectors line M) → IsWide s line M X ⊎ IsNarrow s line M X
  wide_or_narrow M X i = let r = has_rank_over s (vectors line M) X i in go r.chosen r.chosen_in r.independent r.spans
    where
      go : (B : List V) → ((v : V) → In v B → In v X) → IsIndependent s (vectors line M ++ B) → Within s X (vectors line M ++ B) →
          IsWide s line M X ⊎ IsNarrow s line M X
      go [] h j w = inr (inl (subst (λ L. Within s X L) (append-nil (vectors line M)) w))
      go (a ∷ []) h j w = inr (inr (a, h a (inl refl), j, w))
      go (a ∷ b ∷ B) h j w = let k = (append_independent s (vectors line M) (a ∷ b ∷ B) j).1 in
          inl (a, b, h a (inl refl), h b (inr (inl refl)), independent_append s (vectors line M) (a ∷ b ∷ []) i (k.0, (k.1.0, tt)))

  -- over a narrow list no two vectors of its span are missed independently
  pub narrow_excludes : (M : List ℕ) (X : List V) (x y : V) → IsNarrow s line M X → InSpan s X x → InSpan s X y →
      ¬ (Misses s line M (x ∷ y ∷ []))
  narrow_excludes M X x y (inl w) hx hy i =
      let kx : InSpan s (vectors line M) x = through s X (vectors line M) x w hx in
      let ky : InSpan s (vectors line M) y = through s X (vectors line M) y w hy in
      let b = counting_bound s (vectors line M ++ x ∷ y ∷ []) (vectors line M) i (search (kx, ky, placing)) in
      absurd (omega (arith, length-append {A = V}))
  narrow_excludes M X x y (inr h) hx hy i =
      let kx : InSpan s (vectors line M ++ h.0 ∷ []) x = through s X (vectors line M ++ h.0 ∷ []) x h.3 hx in
      let ky : InSpan s (vectors line M ++ h.0 ∷ []) y = through s X (vectors line M ++ h.0 ∷ []) y h.3 hy in
      let b = counting_bound s (vectors line M ++ x ∷ y ∷ []) (vectors line M ++ h.0 ∷ []) i (search (kx, ky, placing)) in
      absurd (omega (arith, length-append {A = V}))

  -- so a list is wide where M misses two vectors of its span independently
  pub wide_from_span : (M : List ℕ) (X : List V) (x y : V) → Misses s line M (x ∷ y ∷ []) → InSpan s X x → InSpan s X y → IsWide s line M X
  wide_from_span M X x y i hx hy = go (wide_or_narrow M X (independent_left s (vectors line M) (x ∷ y ∷ []) i))
    where
      go : IsWide s line M X ⊎ IsNarrow s line M X → IsWide s line M X
      go (inl w) = w
      go (inr n) = absurd (narrow_excludes M X x y n hx hy i)

  -- never both
  pub wide_not_narrow : (M : List ℕ) (X : List V) → IsWide s line M X → ¬ (IsNarrow s line M X)
  wide_not_narrow M X w n = narrow_excludes M X w.0 w.1 n (span_member f s X w.0 w.2) (span_member f s X w.1 w.3) w.4

  pub decide_wide : (M : List ℕ) (X : List V) → IsIndependent s (vectors line M) → Dec (IsWide s line M X)
  decide_wide M X i = elim (wide_or_narrow M X i) [ inl w ↦ yes w | inr n ↦ no (λ w. wide_not_narrow M X w n) ]

  -- two vectors missed together, in the other order
  pub misses_turned : (M : List ℕ) (a b : V) → Misses s line M (a ∷ b ∷ []) → Misses s line M (b ∷ a ∷ [])
  misses_turned M a b i = regroup s (vectors line M ++ a ∷ b ∷ []) (vectors line M ++ b ∷ a ∷ []) i turn
      (omega (arith, length-append (vectors line M) (a ∷ b ∷ []), length-append (vectors line M) (b ∷ a ∷ [])))
    where
      turn : (v : V) → In v (vectors line M ++ a ∷ b ∷ []) → In v (vectors line M ++ b ∷ a ∷ [])
      turn v j = elim (In-append v (vectors line M) (a ∷ b ∷ []) j) [
        | inl k ↦ In-append_left v (vectors line M) (b ∷ a ∷ []) k
        | inr k ↦ In-append_right v (vectors line M) (b ∷ a ∷ [])
            (elim k [ inl e ↦ inr (inl e) | inr l ↦ elim l [ inl e ↦ inl e | inr o ↦ absurd o ] ])
      ]

  -- missed one after the other
  pub two_missed : (M : List ℕ) (a b : V) → Misses s line M (a ∷ []) → ¬ (InSpan s (vectors line M ++ a ∷ []) b) → Misses s line M (a ∷ b ∷ [])
  two_missed M a b i n = rw append_assoc at (append_outside s (vectors line M ++ a ∷ []) b i n)

  -- a and b are of the line i, and M misses both: i is free over M
  pub free_of_pair : (M : List ℕ) (i : ℕ) (a b : V) → In a (vectors line (i ∷ [])) → In b (vectors line (i ∷ [])) →
      Misses s line M (a ∷ b ∷ []) → IsFree s line M i
  free_of_pair M i a b j k h = same_length_independent s (vectors line M ++ a ∷ b ∷ []) (vectors line M ++ vectors line (i ∷ [])) h
      (within_append s (vectors line M) (a ∷ b ∷ []) (vectors line M ++ vectors line (i ∷ []))
      (within_left s (vectors line M) (vectors line M) (vectors line (i ∷ [])) (within_self s (vectors line M)))
      (within_cons s a (b ∷ []) (vectors line M ++ vectors line (i ∷ []))
      (right_in s (vectors line M) (vectors line (i ∷ [])) a (span_member f s (vectors line (i ∷ [])) a j))
      (within_cons s b [] (vectors line M ++ vectors line (i ∷ []))
      (right_in s (vectors line M) (vectors line (i ∷ [])) b (span_member f s (vectors line (i ∷ [])) b k))
      (within_nil s (vectors line M ++ vectors line (i ∷ []))))))
      (omega (arith, length-append (vectors line M) (a ∷ b ∷ []), length-append (vectors line M) (vectors line (i ∷ []))))

  pub decide_free : (M : List ℕ) (e : ℕ) → IsIndependent s (vectors line M) → Dec (IsFree s line M e)
  decide_free M e i = go (decide_wide M (vectors line (e ∷ [])) i)
    where
      go : Dec (IsWide s line M (vectors line (e ∷ []))) → Dec (IsFree s line M e)
      go (yes w) = yes (free_of_pair M e w.0 w.1 w.2 w.3 w.4)
      go (no n) = no (λ x. n ((line e).0, (line e).1, inl refl, inr (inl refl), x))
