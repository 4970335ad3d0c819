-- Elimination over any space: each step adds the multiple of its vector that makes its coordinate zero.
use Rattle.std.proofs.Common.{◌≡◌, ◌≢◌, ℕ, ◌<◌, ◌≤◌, ◌⊎◌, inl, inr, List, [], ◌∷◌, ◌++◌, refl, sym, ap, ap₂, ◌∙◌, subst, arith}
use Rattle.std.specs.Prelude.{⊤}
use Rattle.std.proofs.Math.Decide.{ℕ_discrete}
use Rattle.std.proofs.lemmas.Bool.{cases_lt}
use Rattle.vector_spaces.proofs.LinearMaps.{IsLinear, linear-null, linear_kills}
use Rattle.vector_spaces.proofs.Members.{In}
use Rattle.vector_spaces.proofs.Space.{Field, Space, linear, plus-minus}
use Rattle.vector_spaces.proofs.Span.{InSpan, span_null, span_plus, span_scale}
use Rattle.vector_spaces.proofs.Tuples.{line}

module _ {K V : Type 0} (f : Field K) (s : Space f V) (at : ℕ → V → K) (at-linear : (p : ℕ) → IsLinear s (line f) (at p)) where
  infixl 65 ◌⊞◌
  infixl 70 ◌⊠◌
  infixl 65 ◌⊕◌
  infixl 70 ◌·◌
  open f use {zero as o, one, minus, ◌⊞◌, ◌⊠◌, inv}
  open s use {null, ◌⊕◌, ◌·◌}

  -- a pivot with its vector
  abbrev pub Elimination : Type 0
  Elimination = ℕ × V

  abbrev pub eliminated : Elimination → V → V
  eliminated e x = x ⊕ at e.0 x · e.1

  abbrev pub reduced : List Elimination → V → V
  reduced [] x = x
  reduced (e ∷ es) x = reduced es (eliminated e x)

  eliminated-plus : (e : Elimination) (x y : V) → eliminated e (x ⊕ y) ≡ eliminated e x ⊕ eliminated e y
  eliminated-plus e x y = ap (λ k. x ⊕ y ⊕ k · e.1) ((at-linear e.0).plus x y) ∙ simp linear

  eliminated-scale : (e : Elimination) (c : K) (x : V) → eliminated e (c · x) ≡ c · eliminated e x
  eliminated-scale e c x = ap (λ k. c · x ⊕ k · e.1) ((at-linear e.0).scale c x) ∙ simp linear

  pub reduced-linear : (es : List Elimination) → IsLinear s s (reduced es)
  reduced-linear [] = record { plus = λ x y. refl; scale = λ c x. refl }
  reduced-linear (e ∷ es) = let r = reduced-linear es in record {
    plus = λ x y. ap (reduced es) (eliminated-plus e x y) ∙ r.plus (eliminated e x) (eliminated e y);
    scale = λ c x. ap (reduced es) (eliminated-scale e c x) ∙ r.scale c (eliminated e x);
  }

  pub reduced-push : (es : List Elimination) (e : Elimination) (x : V) → reduced (es ++ e ∷ []) x ≡ eliminated e (reduced es x)
  reduced-push [] e x = refl
  reduced-push (d ∷ es) e x = reduced-push es e (eliminated d x)

  -- what is added lies in the span of the vectors
  pub reduced_adds : (es : List Elimination) (vs : List V) (x : V) → ((e : Elimination) → In e es → InSpan s vs e.1) → (y : V) × InSpan s vs y × (reduced es x ≡ x ⊕ y)
  reduced_adds [] vs x h = (null, span_null f s vs, simp linear)
  reduced_adds (e ∷ es) vs x h =
      let r = reduced_adds es vs (eliminated e x) (λ d i. h d (inr i)) in
      (at e.0 x · e.1 ⊕ r.0, span_plus f s vs (at e.0 x · e.1) r.0 (span_scale f s vs (at e.0 x) e.1 (h e (inl refl))) r.1, r.2 ∙ simp linear)

  -- a span whose vectors become null becomes null
  pub reduced_kills : (es : List Elimination) (vs : List V) (x : V) → ((v : V) → In v vs → reduced es v ≡ null) → InSpan s vs x → reduced es x ≡ null
  reduced_kills es vs x h c = linear_kills f s s (reduced es) (reduced-linear es) vs x h c

  -- the vector r that is left becomes null by the step that takes the multiple of r with minus one at the pivot
  pub removed_by_next : (p : ℕ) (c : K) (r : V) → c ⊠ at p r ≡ minus → eliminated (p, c · r) r ≡ null
  removed_by_next p c r h = ap (λ x. r ⊕ x) (sym (s.mul-scale (at p r) c r) ∙ ap (λ k. k · r) (f.mul_comm (at p r) c ∙ h)) ∙ plus-minus f s r

  at-null : (p : ℕ) → at p null ≡ o
  at-null p = linear-null f s (line f) (at p) (at-linear p)

  -- the coordinate p of each vector is zero
  abbrev pub ZeroAt : ℕ → List Elimination → Type 0
  ZeroAt p [] = ⊤
  ZeroAt p (e ∷ es) = (at p e.1 ≡ o) × ZeroAt p es

  -- each vector is minus one at its pivot and zero before it, and those that follow are zero there
  abbrev pub IsShaped : List Elimination → Type 0
  IsShaped [] = ⊤
  IsShaped (e ∷ es) = (at e.0 e.1 ≡ minus) × ((k : ℕ) → k < e.0 → at k e.1 ≡ o) × ZeroAt e.0 es × IsShaped es

  at-eliminated : (q : ℕ) (e : Elimination) (x : V) → at q (eliminated e x) ≡ at q x ⊞ at e.0 x ⊠ at q e.1
  at-eliminated q e x = (at-linear q).plus x (at e.0 x · e.1) ∙ ap (λ k. at q x ⊞ k) ((at-linear q).scale (at e.0 x) e.1)

  adds_nothing : (a b : K) → a ⊞ b ⊠ o ≡ a
  adds_nothing a b = ap (λ k. a ⊞ k) (f.mul-zero b) ∙ f.add-zero a

  stays_zero : (p : ℕ) (es : List Elimination) (x : V) → ZeroAt p es → at p x ≡ o → at p (reduced es x) ≡ o
  stays_zero p [] x z h = h
  stays_zero p (e ∷ es) x z h = stays_zero p es (eliminated e x) z.1 (at-eliminated p e x ∙ ap₂ (λ a b. a ⊞ at e.0 x ⊠ b) h z.0 ∙ adds_nothing o (at e.0 x))

  -- what is left is zero at each pivot
  pub zero_at_pivots : (es : List Elimination) (x : V) → IsShaped es → (e : Elimination) → In e es → at e.0 (reduced es x) ≡ o
  zero_at_pivots [] x h e i = absurd i
  zero_at_pivots (d ∷ es) x h e (inl q) = subst (λ (t : Elimination). at t.0 (reduced (d ∷ es) x) ≡ o) (sym q)
      (stays_zero d.0 es (eliminated d x) h.2 (at-eliminated d.0 d x ∙ ap (λ k. at d.0 x ⊞ at d.0 x ⊠ k) h.0 ∙ plus-minus_scalar (at d.0 x)))
    where
      plus-minus_scalar : (a : K) → a ⊞ a ⊠ minus ≡ o
      plus-minus_scalar a = ap (λ k. a ⊞ k) (f.mul_comm a minus) ∙ plus-minus f (line f) a
  zero_at_pivots (d ∷ es) x h e (inr i) = zero_at_pivots es (eliminated d x) h.3 e i

  -- u leads at p: it is not zero there, and zero before
  abbrev pub Leads : V → ℕ → Type 0
  Leads u p = (at p u ≢ o) × ((k : ℕ) → k < p → at k u ≡ o)

  -- where p is no pivot, the entry there stays
  leading_stays : (p : ℕ) (es : List Elimination) (u : V) → IsShaped es → ((e : Elimination) → In e es → e.0 ≢ p) → Leads u p → at p (reduced es u) ≢ o
  leading_stays p [] u h n l = l.0
  leading_stays p (e ∷ es) u h n l = go (cases_lt e.0 p) (leading_stays p es u h.3 (λ d i. n d (inr i)) l) (leading_stays p es (eliminated e u) h.3 (λ d i. n d (inr i)))
    where
      same : at e.0 u ≡ o → eliminated e u ≡ u
      same z = ap (λ k. u ⊕ k · e.1) z ∙ simp linear

      kept : p < e.0 → (k : ℕ) → k ≤ p → at k (eliminated e u) ≡ at k u
      kept q k m = at-eliminated k e u ∙ ap (λ b. at k u ⊞ at e.0 u ⊠ b) (h.1 k (omega arith)) ∙ adds_nothing (at k u) (at e.0 u)

      go : (e.0 < p) ⊎ (p ≤ e.0) → at p (reduced es u) ≢ o → (Leads (eliminated e u) p → at p (reduced es (eliminated e u)) ≢ o) → at p (reduced es (eliminated e u)) ≢ o
      go (inl q) before after = subst (λ x. at p (reduced es x) ≢ o) (sym (same (l.1 e.0 q))) before
      go (inr q) before after =
          let far : p < e.0 = (let m = n e (inl refl) in omega arith) in
          after (λ z. l.0 (sym (kept far p (omega arith)) ∙ z), λ k m. kept far k (omega arith) ∙ l.1 k m)

  pivot_or_not : (p : ℕ) (es : List Elimination) → ((e : Elimination) × In e es × (e.0 ≡ p)) ⊎ ((e : Elimination) → In e es → e.0 ≢ p)
  pivot_or_not p [] = inr (λ e i. absurd i)
  pivot_or_not p (e ∷ es) = go (ℕ_discrete e.0 p) (pivot_or_not p es)
    where
      go : Dec (e.0 ≡ p) → ((d : Elimination) × In d es × (d.0 ≡ p)) ⊎ ((d : Elimination) → In d es → d.0 ≢ p) → ((d : Elimination) × In d (e ∷ es) × (d.0 ≡ p)) ⊎ ((d : Elimination) → In d (e ∷ es) → d.0 ≢ p)
      go (yes q) r = inl (e, inl refl, q)
      go (no n) (inl r) = inl (r.0, inr r.1, r.2)
      go (no n) (inr m) = inr (λ d i. elim i [ inl q ↦ subst (λ (t : Elimination). t.0 ≢ p) (sym q) n | inr j ↦ m d j ])

  -- what is left of x is zero wherever a vector leads that becomes null
  pub zero_where_leading : (es : List Elimination) (x u : V) (p : ℕ) → IsShaped es → reduced es u ≡ null → Leads u p → at p (reduced es x) ≡ o
  zero_where_leading es x u p h z l = elim (pivot_or_not p es) [
    | inl r ↦ subst (λ q. at q (reduced es x) ≡ o) r.2 (zero_at_pivots es x h r.0 r.1)
    | inr n ↦ absurd (leading_stays p es u h n l (ap (at p) z ∙ at-null p))
  ]
