-- Combinations by a list of coefficients: linear in the coefficients, what a span holds, and independence.
use Rattle.std.proofs.Common.{◌≡◌, ℕ, suc, zero, List, [], ◌∷◌, ◌++◌, length, map, replicate, refl, sym, ap, ap₂, ◌∙◌, subst, arith}
use Rattle.std.proofs.lemmas.List.{length-replicate}
use Rattle.vector_spaces.proofs.Closure.{IsIndependentOver}
use Rattle.vector_spaces.proofs.Space.{Field, Space, linear, scale-null, plus-minus, null-plus}
use Rattle.vector_spaces.proofs.Span.{InSpan, span_null, zero_of_outside}

-- the first of vs times the first of cs, and so on, summed
unfoldable pub combination : {K V : Type 0} {f : Field K} → Space f V → List K → List V → V
combination s [] vs = s.null
combination s (c ∷ cs) [] = s.null
combination s (c ∷ cs) (v ∷ vs) = s.◌⊕◌ (s.◌·◌ c v) (combination s cs vs)

-- the sum of two lists of coefficients
abbrev pub coefficient_sum : {K : Type 0} → Field K → List K → List K → List K
coefficient_sum f [] ds = []
coefficient_sum f (c ∷ cs) [] = []
coefficient_sum f (c ∷ cs) (d ∷ ds) = f.◌⊞◌ c d ∷ coefficient_sum f cs ds

pub length-coefficient_sum : {K : Type 0} (f : Field K) (cs ds : List K) → length cs ≡ length ds → length (coefficient_sum f cs ds) ≡ length cs
length-coefficient_sum f [] ds e = refl
length-coefficient_sum f (c ∷ cs) [] e = absurd (omega arith)
length-coefficient_sum f (c ∷ cs) (d ∷ ds) e = ap suc (length-coefficient_sum f cs ds (omega arith))

-- only zeros combine vs into the span of us
abbrev pub OnlyZerosCombine : {K V : Type 0} {f : Field K} → Space f V → List V → List V → Type 0
OnlyZerosCombine {K} {V} {f} s us vs = (cs : List K) → length cs ≡ length vs → InSpan s us (combination s cs vs) → cs ≡ replicate (length vs) f.zero

module _ {K V : Type 0} (f : Field K) (s : Space f V) where
  infixl 65 ◌⊞◌
  infixl 70 ◌⊠◌
  infixl 65 ◌⊕◌
  infixl 70 ◌·◌
  open f use {zero as o, one, minus, ◌⊞◌, ◌⊠◌, inv}
  open s use {null, ◌⊕◌, ◌·◌}

  pub combination-nil : (cs : List K) → combination s cs [] ≡ null
  unfolding combination
  combination-nil [] = refl
  combination-nil (c ∷ cs) = refl

  pub combination-none : (vs : List V) → combination s [] vs ≡ null
  unfolding combination
  combination-none vs = refl

  pub combination-cons : (c : K) (cs : List K) (v : V) (vs : List V) → combination s (c ∷ cs) (v ∷ vs) ≡ c · v ⊕ combination s cs vs
  unfolding combination
  combination-cons c cs v vs = refl

pub ruleset combining = (combination-nil, combination-none, combination-cons, linear)

module _ {K V : Type 0} (f : Field K) (s : Space f V) where
  infixl 65 ◌⊞◌
  infixl 70 ◌⊠◌
  infixl 65 ◌⊕◌
  infixl 70 ◌·◌
  open f use {zero as o, one, minus, ◌⊞◌, ◌⊠◌, inv}
  open s use {null, ◌⊕◌, ◌·◌}

  pub combination-sum : (cs ds : List K) (vs : List V) → length cs ≡ length ds → combination s (coefficient_sum f cs ds) vs ≡ combination s cs vs ⊕ combination s ds vs
  combination-sum [] [] vs e = simp combining
  combination-sum [] (d ∷ ds) vs e = absurd (omega arith)
  combination-sum (c ∷ cs) [] vs e = absurd (omega arith)
  combination-sum (c ∷ cs) (d ∷ ds) [] e = simp combining
  combination-sum (c ∷ cs) (d ∷ ds) (v ∷ vs) e = simp (combination-sum cs ds vs (omega arith), combining)

  pub combination-scale : (a : K) (cs : List K) (vs : List V) → combination s (map (λ c. a ⊠ c) cs) vs ≡ a · combination s cs vs
  combination-scale a [] vs = simp combining
  combination-scale a (c ∷ cs) [] = simp combining
  combination-scale a (c ∷ cs) (v ∷ vs) = simp (combination-scale a cs vs, combining)

  pub combination-append : (cs ds : List K) (vs ws : List V) → length cs ≡ length vs → combination s (cs ++ ds) (vs ++ ws) ≡ combination s cs vs ⊕ combination s ds ws
  combination-append [] ds [] ws e = simp combining
  combination-append [] ds (v ∷ vs) ws e = absurd (omega arith)
  combination-append (c ∷ cs) ds [] ws e = absurd (omega arith)
  combination-append (c ∷ cs) ds (v ∷ vs) ws e = simp (combination-append cs ds vs ws (omega arith), combining)

  pub combination-zeros : (n : ℕ) (vs : List V) → combination s (replicate n o) vs ≡ null
  combination-zeros zero vs = simp combining
  combination-zeros (suc n) [] = simp combining
  combination-zeros (suc n) (v ∷ vs) = simp (combination-zeros n vs, combining)

  -- a last coefficient that is zero
  pub combination-push_zero : (cs : List K) (vs : List V) → combination s (cs ++ o ∷ []) vs ≡ combination s cs vs
  combination-push_zero [] [] = simp combining
  combination-push_zero [] (v ∷ vs) = simp combining
  combination-push_zero (c ∷ cs) [] = simp combining
  combination-push_zero (c ∷ cs) (v ∷ vs) = simp (combination-push_zero cs vs, combining)

  pub span_of_combination : (cs : List K) (vs : List V) → InSpan s vs (combination s cs vs)
  span_of_combination [] vs = rw combination-none (span_null f s vs)
  span_of_combination (c ∷ cs) [] = simp combining
  span_of_combination (c ∷ cs) (v ∷ vs) = (c, combination s cs vs, span_of_combination cs vs, combination-cons f s c cs v vs)

  pub combination_of_span : (vs : List V) (x : V) → InSpan s vs x → (cs : List K) × (length cs ≡ length vs) × (combination s cs vs ≡ x)
  combination_of_span [] x h = ([], refl, rw h (combination-none f s []))
  combination_of_span (v ∷ vs) x h = let r = combination_of_span vs h.1 h.2 in (h.0 ∷ r.0, ap suc r.1, combination-cons f s h.0 r.0 v vs ∙ ap (λ y. h.0 · v ⊕ y) r.2 ∙ sym h.3)

  pub independent_of : (us vs : List V) → IsIndependentOver (InSpan s) us vs → OnlyZerosCombine s us vs
  independent_of us [] i [] e h = refl
  independent_of us [] i (c ∷ cs) e h = absurd (omega arith)
  independent_of us (v ∷ vs) i [] e h = absurd (omega arith)
  independent_of us (v ∷ vs) i (c ∷ cs) e h =
      let tail : cs ≡ replicate (length vs) o = independent_of (v ∷ us) vs i.1 cs (omega arith) (minus ⊠ c, c · v ⊕ combination s cs vs, rw (← combination-cons f s c cs v vs) h, simp combining) in
      let alone : InSpan s us (c · v) = subst (λ x. InSpan s us x) (rw (tail, combination-cons) (simp (combination-zeros, combining))) h in
      ap₂ (λ x y. x ∷ y) (zero_of_outside f s us c v i.0 alone) tail

  pub indep_of : (us vs : List V) → OnlyZerosCombine s us vs → IsIndependentOver (InSpan s) us vs
  indep_of us [] h = tt
  indep_of us (v ∷ vs) h = (
    λ c. f.one≢zero (head (h (one ∷ replicate (length vs) o) (ap suc (simp length-replicate)) (subst (λ x. InSpan s us x) (simp (combination-zeros, combining)) c))),
    indep_of (v ∷ us) vs (λ cs e k. tail (h (minus ⊠ k.0 ∷ cs) (ap suc e) (subst (λ x. InSpan s us x) (simp combining (rw k.3 (simp linear))) k.2))),
  )
    where
      head : {x y : K} {xs ys : List K} → x ∷ xs ≡ y ∷ ys → x ≡ y
      head e = cc

      tail : {x y : K} {xs ys : List K} → x ∷ xs ≡ y ∷ ys → xs ≡ ys
      tail e = cc
