-- Closure operators with exchange, on any type, and the exchange lemma of Steinitz. No algebra.
use Rattle.std.proofs.Common.{◌≡◌, suc, ◌≤◌, inl, inr, List, [], ◌∷◌, ◌++◌, length, refl, sym, ap, subst, arith}
use Rattle.std.specs.Prelude.{⊤}
use Rattle.vector_spaces.proofs.Members.{In, In-append_left, In-append_right, In-append}

-- Cl vs x says that x is in the closure of vs: a decidable relation with the exchange property
pub record IsClosure (V : Type 0) (Cl : List V → V → Type 0) : Type 0 where
  pub member : (vs : List V) (x : V) → In x vs → Cl vs x
  pub through : (vs ws : List V) (x : V) → ((v : V) → In v vs → Cl ws v) → Cl vs x → Cl ws x
  pub exchange : (vs : List V) (v w : V) → Cl (w ∷ vs) v → ¬ (Cl vs v) → Cl (v ∷ vs) w
  pub decide : (vs : List V) (x : V) → Dec (Cl vs x)

-- each of vs is outside the closure of us and of those before it
abbrev pub IsIndependentOver : {V : Type 0} → (List V → V → Type 0) → List V → List V → Type 0
IsIndependentOver Cl us [] = ⊤
IsIndependentOver Cl us (v ∷ vs) = ¬ (Cl us v) × IsIndependentOver Cl (v ∷ us) vs

module _ (V : Type 0) (Cl : List V → V → Type 0) (m : IsClosure V Cl) where
  -- ws reaches all that vs reaches
  abbrev pub Spans : List V → List V → Type 0
  Spans ws vs = (x : V) → Cl vs x → Cl ws x

  pub spans_of_members : (ws vs : List V) → ((v : V) → In v vs → Cl ws v) → Spans ws vs
  spans_of_members ws vs h x c = m.through vs ws x h c

  pub spans_of_sub : (ws vs : List V) → ((v : V) → In v vs → In v ws) → Spans ws vs
  spans_of_sub ws vs h = spans_of_members ws vs (λ v i. m.member ws v (h v i))

  pub spans_append : (ws us vs : List V) → Spans ws us → Spans ws vs → Spans ws (us ++ vs)
  spans_append ws us vs h k = spans_of_members ws (us ++ vs) (λ v i.
      elim (In-append v us vs i) [ inl j ↦ h v (m.member us v j) | inr j ↦ k v (m.member vs v j) ])

  pub spans_left : (vs ws : List V) → Spans (vs ++ ws) vs
  spans_left vs ws = spans_of_sub (vs ++ ws) vs (λ v i. In-append_left v vs ws i)

  pub spans_right : (vs ws : List V) → Spans (vs ++ ws) ws
  spans_right vs ws = spans_of_sub (vs ++ ws) ws (λ v i. In-append_right v vs ws i)

  pub spans_cons : (ws : List V) (v : V) (vs : List V) → Cl ws v → Spans ws vs → Spans ws (v ∷ vs)
  spans_cons ws v vs c h = spans_of_members ws (v ∷ vs) go
    where
      go : (x : V) → In x (v ∷ vs) → Cl ws x
      go x (inl e) = subst (λ y. Cl ws y) (sym e) c
      go x (inr i) = h x (m.member vs x i)

  pub head_in : (v : V) (vs : List V) → Cl (v ∷ vs) v
  head_in v vs = m.member (v ∷ vs) v (inl refl)

  pub spans_tail : (v : V) (vs : List V) → Spans (v ∷ vs) vs
  spans_tail v vs = spans_of_sub (v ∷ vs) vs (λ x i. inr i)

  -- `vs` in the middle moved to the front, and back
  pub spans_front : (ws : List V) (v : V) (us : List V) → Spans (ws ++ v ∷ us) (v ∷ ws ++ us)
  spans_front ws v us = spans_cons (ws ++ v ∷ us) v (ws ++ us) (spans_right ws (v ∷ us) v (head_in v us))
      (spans_append (ws ++ v ∷ us) ws us (spans_left ws (v ∷ us)) (λ x c. spans_right ws (v ∷ us) x (spans_tail v us x c)))

  pub spans_back : (ws : List V) (v : V) (us : List V) → Spans (v ∷ ws ++ us) (ws ++ v ∷ us)
  spans_back ws v us = spans_append (v ∷ ws ++ us) ws (v ∷ us)
      (λ x c. spans_tail v (ws ++ us) x (spans_left ws us x c))
      (spans_cons (v ∷ ws ++ us) v us (head_in v (ws ++ us)) (λ x c. spans_tail v (ws ++ us) x (spans_right ws us x c)))

  -- one step of the exchange: a vector outside the span of us takes the place of one of ws
  pub give_place : (ws us : List V) (v : V) → Cl (ws ++ us) v → ¬ (Cl us v) → (ws' : List V) × (length ws ≡ suc (length ws')) × Spans (ws' ++ v ∷ us) (ws ++ us)
  give_place [] us v c n = absurd (n c)
  give_place (w ∷ ws) us v c n = go (m.decide (ws ++ us) v) (give_place ws us v)
    where
      go : Dec (Cl (ws ++ us) v) → (Cl (ws ++ us) v → ¬ (Cl us v) → (ws' : List V) × (length ws ≡ suc (length ws')) × Spans (ws' ++ v ∷ us) (ws ++ us)) → (ws' : List V) × (length (w ∷ ws) ≡ suc (length ws')) × Spans (ws' ++ v ∷ us) (w ∷ ws ++ us)
      go (yes d) ih = let r = ih d n in (w ∷ r.0, ap suc r.1, spans_cons (w ∷ r.0 ++ v ∷ us) w (ws ++ us) (head_in w (r.0 ++ v ∷ us)) (λ x k. spans_tail w (r.0 ++ v ∷ us) x (r.2 x k)))
      go (no d) ih = (ws, refl, spans_cons (ws ++ v ∷ us) w (ws ++ us) (spans_front ws v us w (m.exchange (ws ++ us) v w c d)) (λ x k. spans_front ws v us x (spans_tail v (ws ++ us) x k)))

  -- the exchange lemma: an independent list in the closure of ws is not longer than ws
  pub steinitz : (vs us ws : List V) → IsIndependentOver Cl us vs → ((v : V) → In v vs → Cl (ws ++ us) v) → length vs ≤ length ws
  steinitz [] us ws i h = omega arith
  steinitz (v ∷ vs) us ws i h =
      let r = give_place ws us v (h v (inl refl)) i.0 in
      let k = steinitz vs (v ∷ us) r.0 i.1 (λ x j. r.2 x (h x (inr j))) in
      let e = r.1 in
      omega arith
