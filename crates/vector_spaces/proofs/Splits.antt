-- Pivots, and the unique split of a vector over an independent list.
use Rattle.std.proofs.Common.{◌≡◌, ◌≢◌, List, [], ◌∷◌, ◌++◌, length, sym, ap, ◌∙◌, subst, refl}
use Rattle.vector_spaces.proofs.Closure.{IsIndependentOver}
use Rattle.vector_spaces.proofs.Combination.{combination, combination-append, span_of_combination, combining}
use Rattle.vector_spaces.proofs.Independence.{IsIndependent, append_independent}
use Rattle.vector_spaces.proofs.Space.{Field, Space, linear, move, null-plus, minus-plus-plus}
use Rattle.vector_spaces.proofs.Span.{InSpan, span_plus, span_scale, span_minus, undo, solve}
use Rattle.vector_spaces.proofs.Within.{left_in, right_in}

module _ {K V : Type 0} {f : Field K} (s : Space f V) where
  infixl 65 ◌⊞◌
  infixl 70 ◌⊠◌
  infixl 65 ◌⊕◌
  infixl 70 ◌·◌
  open f use {zero as o, one, minus, ◌⊞◌, ◌⊠◌, inv}
  open s use {null, ◌⊕◌, ◌·◌}

  -- a vector of the span of an append, as one of each span
  pub span_split : (us ws : List V) (x : V) → InSpan s (us ++ ws) x → (y : V) × (z : V) × InSpan s us y × InSpan s ws z × (x ≡ y ⊕ z)
  span_split [] ws x h = (null, x, refl, h, simp linear)
  span_split (u ∷ us) ws x h = let r = span_split us ws h.1 h.2 in (h.0 · u ⊕ r.0, r.1, (h.0, r.0, r.2, refl), r.3, h.3 ∙ ap (λ t. h.0 · u ⊕ t) r.4 ∙ simp linear)

  -- a combination in which v has a scalar that is not zero gives v back
  pub pivot_in : (vs : List V) (c : K) (v x y : V) → c ≢ o → InSpan s vs y → x ≡ c · v ⊕ y → InSpan s (x ∷ vs) v
  pivot_in vs c v x y n h e = (inv c, minus · (inv c · y), span_scale f s vs minus (inv c · y) (span_scale f s vs (inv c) y h), solve f s c x v y n e)

  pub pivot : (cs : List K) (c : K) (ds : List K) (us : List V) (v : V) (vs : List V) (x : V) → length cs ≡ length us → combination s (cs ++ c ∷ ds) (us ++ v ∷ vs) ≡ x → c ≢ o → InSpan s (x ∷ us ++ vs) v
  pivot cs c ds us v vs x e h n = pivot_in (us ++ vs) c v x (combination s cs us ⊕ combination s ds vs) n
      (span_plus f s (us ++ vs) (combination s cs us) (combination s ds vs) (left_in s us vs (combination s cs us) (span_of_combination f s cs us)) (right_in s us vs (combination s ds vs) (span_of_combination f s ds vs)))
      (sym h ∙ combination-append f s cs (c ∷ ds) us (v ∷ vs) e ∙ simp combining)

  null_over : (us vs : List V) (x : V) → IsIndependentOver (InSpan s) us vs → InSpan s us x → InSpan s vs x → x ≡ null
  null_over us [] x i h k = k
  null_over us (v ∷ vs) x i h k =
      let z : k.1 ≡ null = null_over (v ∷ us) vs k.1 i.1 (minus ⊠ k.0, x, h, rw k.3 (simp linear)) k.2 in
      let e : x ≡ k.0 · v = k.3 ∙ ap (λ t. k.0 · v ⊕ t) z ∙ s.plus-null (k.0 · v) in
      go e (f.same_scalar k.0 o)
    where
      go : x ≡ k.0 · v → Dec (k.0 ≡ o) → x ≡ null
      go e (yes q) = e ∙ ap (λ t. t · v) q ∙ s.zero-scale v
      go e (no n) = absurd (i.0 (subst (λ t. InSpan s us t) (ap (λ t. inv k.0 · t) e ∙ undo f s k.0 v n) (span_scale f s us (inv k.0) x h)))

  -- the spans of the two halves of an independent list meet in null alone
  pub common_is_null : (us vs : List V) (x : V) → IsIndependent s (us ++ vs) → InSpan s us x → InSpan s vs x → x ≡ null
  common_is_null us vs x i h k = null_over us vs x (append_independent s us vs i).1 h k

  pub same_of_difference : (a c : V) → a ⊕ minus · c ≡ null → a ≡ c
  same_of_difference a c e = (simp linear) ∙ ap (λ t. t ⊕ c) e ∙ null-plus f s c

  cancel : (c b d : V) → c ⊕ b ≡ c ⊕ d → b ≡ d
  cancel c b d e = sym (minus-plus-plus f s c b) ∙ ap (λ t. minus · c ⊕ t) e ∙ minus-plus-plus f s c d

  cross : (a b c d : V) → a ⊕ b ≡ c ⊕ d → d ⊕ minus · b ≡ a ⊕ minus · c
  cross a b c d e = move f s d b (a ⊕ minus · c) (sym (swap ∙ ap (λ t. t ⊕ minus · c) e ∙ simp linear))
    where
      swap : a ⊕ minus · c ⊕ b ≡ a ⊕ b ⊕ minus · c
      swap = simp linear

  pub unique_split : (us vs : List V) (a b c d : V) → IsIndependent s (us ++ vs) → InSpan s us a → InSpan s us c → InSpan s vs b → InSpan s vs d → a ⊕ b ≡ c ⊕ d → (a ≡ c) × (b ≡ d)
  unique_split us vs a b c d i ha hc hb hd e =
      let z : a ⊕ minus · c ≡ null = common_is_null us vs (a ⊕ minus · c) i (span_minus f s us a c ha hc) (subst (λ t. InSpan s vs t) (cross a b c d e) (span_minus f s vs d b hd hb)) in
      let p : a ≡ c = same_of_difference a c z in
      (p, cancel c b d (sym (ap (λ t. t ⊕ b) p) ∙ e))
