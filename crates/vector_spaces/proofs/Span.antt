-- Spans: what the combinations of a list are, by recursion over the list. Spanning is a closure with exchange.
use Rattle.std.proofs.Common.{◌≡◌, ◌≢◌, inl, inr, List, [], ◌∷◌, refl, sym, ap, ap₂, ◌∙◌, subst}
use Rattle.vector_spaces.proofs.Closure.{IsClosure}
use Rattle.vector_spaces.proofs.Members.{In}
use Rattle.vector_spaces.proofs.Space.{Field, Space, linear}

-- x is a combination of vs
abbrev pub InSpan : {K V : Type 0} {f : Field K} → Space f V → List V → V → Type 0
InSpan s [] x = x ≡ s.null
InSpan {K} {V} {f} s (v ∷ vs) x = (c : K) × (y : V) × InSpan s vs y × (x ≡ s.◌⊕◌ (s.◌·◌ c v) y)

module _ {K V : Type 0} (f : Field K) (s : Space f V) where
  infixl 65 ◌⊞◌
  infixl 70 ◌⊠◌
  infixl 65 ◌⊕◌
  infixl 70 ◌·◌
  open f use {zero as o, one, minus, ◌⊞◌, ◌⊠◌, inv}
  open s use {null, ◌⊕◌, ◌·◌}

  pub span_null : (vs : List V) → InSpan s vs null
  span_null [] = refl
  span_null (v ∷ vs) = (o, null, span_null vs, simp linear)

  pub span_plus : (vs : List V) (x y : V) → InSpan s vs x → InSpan s vs y → InSpan s vs (x ⊕ y)
  span_plus [] x y h k = ap₂ (λ a b. a ⊕ b) h k ∙ simp linear
  span_plus (v ∷ vs) x y h k = (h.0 ⊞ k.0, h.1 ⊕ k.1, span_plus vs h.1 k.1 h.2 k.2, rw (h.3, k.3) (simp linear))

  pub span_scale : (vs : List V) (a : K) (x : V) → InSpan s vs x → InSpan s vs (a · x)
  span_scale [] a x h = rw h (simp linear)
  span_scale (v ∷ vs) a x h = (a ⊠ h.0, a · h.1, span_scale vs a h.1 h.2, rw h.3 (simp linear))

  pub span_minus : (vs : List V) (x y : V) → InSpan s vs x → InSpan s vs y → InSpan s vs (x ⊕ minus · y)
  span_minus vs x y h k = span_plus vs x (minus · y) h (span_scale vs (minus) y k)

  pub span_more : (vs : List V) (v x : V) → InSpan s vs x → InSpan s (v ∷ vs) x
  span_more vs v x h = (o, x, h, simp linear)

  pub span_member : (vs : List V) (x : V) → In x vs → InSpan s vs x
  span_member [] x i = absurd i
  span_member (v ∷ vs) x (inl e) = (one, null, span_null vs, rw e (simp linear))
  span_member (v ∷ vs) x (inr i) = span_more vs v x (span_member vs x i)

  pub span_through : (vs ws : List V) (x : V) → ((v : V) → In v vs → InSpan s ws v) → InSpan s vs x → InSpan s ws x
  span_through [] ws x h k = subst (λ z. InSpan s ws z) (sym k) (span_null ws)
  span_through (v ∷ vs) ws x h k = subst (λ z. InSpan s ws z) (sym k.3)
      (span_plus ws (k.0 · v) k.1 (span_scale ws k.0 v (h v (inl refl))) (span_through vs ws k.1 (λ u i. h u (inr i)) k.2))

  -- v = c w + y with c not zero is turned round
  pub undo : (c : K) (w : V) → c ≢ o → inv c · (c · w) ≡ w
  undo c w n = sym (s.mul-scale (inv c) c w) ∙ ap (λ k. k · w) (f.mul_comm (inv c) c ∙ f.mul-inv c n) ∙ s.one-scale w

  -- a multiple of a vector outside a span is in it by zero alone
  pub zero_of_outside : (us : List V) (c : K) (v : V) → ¬ (InSpan s us v) → InSpan s us (c · v) → c ≡ o
  zero_of_outside us c v n h = go (f.same_scalar c o)
    where
      go : Dec (c ≡ o) → c ≡ o
      go (yes z) = z
      go (no q) = absurd (n (subst (λ x. InSpan s us x) (undo c v q) (span_scale us (inv c) (c · v) h)))

  -- and so are both scalars of two vectors outside, one after the other
  pub zeros_of_outside : (us : List V) (u v : V) (a b : K) → ¬ (InSpan s us u) → ¬ (InSpan s (u ∷ us) v) → InSpan s us (a · u ⊕ b · v) → (a ≡ o) × (b ≡ o)
  zeros_of_outside us u v a b n m h =
      let z : b ≡ o = zero_of_outside (u ∷ us) b v m (minus ⊠ a, a · u ⊕ b · v, h, simp linear) in
      (zero_of_outside us a u n (subst (λ t. InSpan s us t) (rw z (simp linear)) h), z)

  pub solve : (c : K) (v w y : V) → c ≢ o → v ≡ c · w ⊕ y → w ≡ inv c · v ⊕ minus · (inv c · y)
  solve c v w y n e = rw e (simp (undo c w n, linear))

  pub span_exchange : (vs : List V) (v w : V) → InSpan s (w ∷ vs) v → ¬ (InSpan s vs v) → InSpan s (v ∷ vs) w
  span_exchange vs v w h n = (inv h.0, minus · (inv h.0 · h.1), span_scale vs minus (inv h.0 · h.1) (span_scale vs (inv h.0) h.1 h.2), solve h.0 v w h.1 nonzero h.3)
    where
      nonzero : h.0 ≢ o
      nonzero z = n (subst (λ x. InSpan s vs x) (sym (h.3 ∙ ap (λ k. k · w ⊕ h.1) z ∙ simp linear)) h.2)

  -- steps of elimination: w + y with y in the span of the rest, and c w with c not zero, keep the span
  pub span_unadd : (vs : List V) (w y : V) → InSpan s vs y → InSpan s ((w ⊕ y) ∷ vs) w
  span_unadd vs w y h = (one, minus · y, span_scale vs minus y h, simp linear)

  pub span_unscale : (vs : List V) (c : K) (w : V) → c ≢ o → InSpan s ((c · w) ∷ vs) w
  span_unscale vs c w n = (inv c, null, span_null vs, simp (undo c w n, linear))

  pub search_in : (P : K → Type 0) → ((a : K) → Dec (P a)) → (ks : List K) → Dec ((a : K) × In a ks × P a)
  search_in P d [] = no (λ h. h.1)
  search_in P d (a ∷ ks) = go (d a) (search_in P d ks)
    where
      go : Dec (P a) → Dec ((b : K) × In b ks × P b) → Dec ((b : K) × In b (a ∷ ks) × P b)
      go (yes p) r = yes (a, inl refl, p)
      go (no n) (yes r) = yes (r.0, inr r.1, r.2)
      go (no n) (no m) = no (λ h. elim h.1 [ inl e ↦ n (subst P e h.2) | inr i ↦ m (h.0, i, h.2) ])

  pub decide_span : (vs : List V) (x : V) → Dec (InSpan s vs x)
  decide_span [] x = s.same_vector x null
  decide_span (v ∷ vs) x = go (search_in (λ c. InSpan s vs (x ⊕ minus · (c · v))) (λ c. decide_span vs (x ⊕ minus · (c · v))) f.scalars)
    where
      go : Dec ((c : K) × In c f.scalars × InSpan s vs (x ⊕ minus · (c · v))) → Dec (InSpan s (v ∷ vs) x)
      go (yes h) = yes (h.0, x ⊕ minus · (h.0 · v), h.2, simp linear)
      go (no n) = no (λ h. n (h.0, f.every h.0, subst (λ y. InSpan s vs y) (rw h.3 (simp linear)) h.2))

  pub span_closure : IsClosure V (InSpan s)
  span_closure = record { member = span_member; through = span_through; exchange = span_exchange; decide = decide_span }
