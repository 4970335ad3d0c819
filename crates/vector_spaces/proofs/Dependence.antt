-- Dependent lists: relations, and members in the span of those before them.
use Rattle.std.proofs.Common.{◌≡◌, ◌≢◌, zero, suc, ℕ, ◌⊎◌, inl, inr, List, [], ◌∷◌, ◌++◌, length, replicate, refl, sym, ap, ◌∙◌, subst, arith, append-nil, append_assoc}
use Rattle.std.proofs.lemmas.List.{length-append, length-replicate}
use Rattle.vector_spaces.proofs.Combination.{combination, combining, combination-append, combination-zeros, independent_of, combination_of_span}
use Rattle.vector_spaces.proofs.Independence.{IsIndependent, span_decidable}
use Rattle.vector_spaces.proofs.Members.{In, In-append_right}
use Rattle.vector_spaces.proofs.Space.{Field, Space}
use Rattle.vector_spaces.proofs.Span.{InSpan}

-- some coefficients, not all zero, combine vs to null
abbrev pub IsDependent : {K V : Type 0} {f : Field K} → Space f V → List V → Type 0
IsDependent {K} {V} {f} s vs = (cs : List K) × (length cs ≡ length vs) × (combination s cs vs ≡ s.null) × ((c : K) × In c cs × (c ≢ f.zero))

-- a member of vs is in the span of those before it
abbrev pub HasRedundant : {K V : Type 0} {f : Field K} → Space f V → List V → Type 0
HasRedundant {K} {V} s vs = (ts : List V) × (v : V) × (xs : List V) × (vs ≡ ts ++ v ∷ xs) × InSpan s ts v

module _ {K V : Type 0} {f : Field K} (s : Space f V) where
  infixl 65 ◌⊞◌
  infixl 65 ◌⊕◌
  open f use {zero as o, one, minus, ◌⊞◌}
  open s use {◌⊕◌}

  redundant_from : (us ws : List V) → IsIndependent s us → IsIndependent s (us ++ ws) ⊎ HasRedundant s (us ++ ws)
  redundant_from us [] i = inl (subst (λ t. IsIndependent s t) (sym (append-nil us)) i)
  redundant_from us (w ∷ ws) i = go (span_decidable s us w i) (redundant_from (us ++ w ∷ []) ws)
    where
      go : InSpan s us w ⊎ IsIndependent s (us ++ w ∷ []) → (IsIndependent s (us ++ w ∷ []) → IsIndependent s ((us ++ w ∷ []) ++ ws) ⊎ HasRedundant s ((us ++ w ∷ []) ++ ws)) → IsIndependent s (us ++ w ∷ ws) ⊎ HasRedundant s (us ++ w ∷ ws)
      go (inl c) ih = inr (us, w, ws, refl, c)
      go (inr j) ih = subst (λ t. IsIndependent s t ⊎ HasRedundant s t) (append_assoc us (w ∷ []) ws) (ih j)

  -- a list is independent, or one of it is spanned by those before it
  pub independent_or_redundant : (vs : List V) → IsIndependent s vs ⊎ HasRedundant s vs
  independent_or_redundant vs = redundant_from [] vs tt

  minus≢zero : minus ≢ o
  minus≢zero e = f.one≢zero (sym (f.add-zero one) ∙ ap (λ t. one ⊞ t) (sym e) ∙ f.one-minus)

  -- the relation of a member in the span of those before it
  pub dependent_of_redundant : (vs : List V) → HasRedundant s vs → IsDependent s vs
  dependent_of_redundant vs r = let k = combination_of_span f s r.0 r.1 r.4 in subst (λ t. IsDependent s t) (sym r.3) (
    k.0 ++ minus ∷ replicate (length r.2) o,
    (let e1 = length-append k.0 (minus ∷ replicate (length r.2) o) in let e2 = length-append r.0 (r.1 ∷ r.2) in let e3 : length (replicate (length r.2) o) ≡ length r.2 = simp length-replicate in let e4 = k.1 in omega arith),
    combination-append f s k.0 (minus ∷ replicate (length r.2) o) r.0 (r.1 ∷ r.2) k.1 ∙ ap (λ t. t ⊕ combination s (minus ∷ replicate (length r.2) o) (r.1 ∷ r.2)) k.2 ∙ simp (combination-zeros, combining),
    (minus, In-append_right minus k.0 (minus ∷ replicate (length r.2) o) (inl refl), minus≢zero),
  )

  -- a list is independent, or has a relation
  pub independent_or_dependent : (vs : List V) → IsIndependent s vs ⊎ IsDependent s vs
  independent_or_dependent vs = elim (independent_or_redundant vs) [ inl i ↦ inl i | inr r ↦ inr (dependent_of_redundant vs r) ]

  -- never both
  pub dependent_not_independent : (vs : List V) → IsDependent s vs → ¬ (IsIndependent s vs)
  dependent_not_independent vs r i = r.3.2 (zeros (length vs) r.3.0 (subst (λ t. In r.3.0 t) (independent_of f s [] vs i r.0 r.1 r.2) r.3.1))
    where
      zeros : (n : ℕ) (c : K) → In c (replicate n o) → c ≡ o
      zeros zero c q = absurd q
      zeros (suc n) c (inl e) = e
      zeros (suc n) c (inr q) = zeros n c q
