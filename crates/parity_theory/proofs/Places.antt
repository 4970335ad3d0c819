-- The place of a line over an independent list of lines: inside its span, single, exposed or free.
use Rattle.std.proofs.Common.{◌≡◌, ◌≢◌, ℕ, zero, suc, ◌≤◌, ◌⊎◌, inl, inr, List, [], ◌∷◌, ◌++◌, refl, sym, ap, ◌∙◌, length, subst, arith}
use Rattle.parity_theory.proofs.Coordinates.{line_combination_of_span}
use Rattle.parity_theory.proofs.Exposure.{Exposed, IsExposed, expose, exposed_base, exposed_line_independent, exposed_not_inside, exposed_not_free, exposed_within}
use Rattle.parity_theory.proofs.Lines.{vectors, Misses, IsFree}
use Rattle.vector_spaces.proofs.Bases.{HasRankOver, has_rank_over, rank_over_bounds, rank_over_unique, has_rank_zero, within_of_rank_zero, has_full_rank, independent_of_full_rank}
use Rattle.vector_spaces.proofs.Independence.{IsIndependent, head_is_outside, same_length_spans, appended_is_outside, independent_left, independent_right}
use Rattle.vector_spaces.proofs.Members.{In}
use Rattle.vector_spaces.proofs.Ranks.{rank, rank_le_length}
use Rattle.vector_spaces.proofs.Space.{Field, Space, move, null-plus}
use Rattle.vector_spaces.proofs.Span.{InSpan, span_closure, span_member, span_minus}
use Rattle.vector_spaces.proofs.Splits.{span_split}
use Rattle.vector_spaces.proofs.Within.{Within, placing, through, within_trans, within_left, within_right, within_members}

-- the four places
pub data Place : Type 0 where
  inside single exposed free : Place

-- the line e has the place p over M, by the rank of its two vectors over those of M, and by their own rank
abbrev pub HasPlace : {K V : Type 0} {f : Field K} → Space f V → (ℕ → V × V) → List ℕ → ℕ → Place → Type 0
HasPlace s line M e inside = HasRankOver s (vectors line M) (vectors line (e ∷ [])) 0
HasPlace s line M e single = HasRankOver s (vectors line M) (vectors line (e ∷ [])) 1 × HasRankOver s [] (vectors line (e ∷ [])) 1
HasPlace s line M e exposed = HasRankOver s (vectors line M) (vectors line (e ∷ [])) 1 × HasRankOver s [] (vectors line (e ∷ [])) 2
HasPlace s line M e free = HasRankOver s (vectors line M) (vectors line (e ∷ [])) 2

-- the rank over M at a place
abbrev rank_at : Place → ℕ
rank_at inside = 0
rank_at single = 1
rank_at exposed = 1
rank_at free = 2

module _ {K V : Type 0} {f : Field K} (s : Space f V) (line : ℕ → V × V) (M : List ℕ) (e : ℕ) where
  infixl 65 ◌⊕◌
  infixl 70 ◌·◌
  open f use {minus}
  open s use {null, ◌⊕◌, ◌·◌}

  -- the two vectors of the line
  abbrev own : List V
  own = vectors line (e ∷ [])

  -- each line has a place
  pub place_of_a_line : IsIndependent s (vectors line M) → (p : Place) × HasPlace s line M e p
  place_of_a_line i =
      let r = has_rank_over s (vectors line M) own i in
      let o = has_rank_over s [] own tt in
      let n : ℕ = rank V (InSpan s) (span_closure f s) (vectors line M) own in
      let k : ℕ = rank V (InSpan s) (span_closure f s) [] own in
      let l : length r.chosen ≤ k = rank_over_bounds s [] own r.chosen k o (independent_right s (vectors line M) r.chosen r.independent) (within_members s r.chosen own r.chosen_in) in
      let q = r.length_chosen in
      go n k r o (omega arith) (rank_le_length V (InSpan s) (span_closure f s) (vectors line M) own) (rank_le_length V (InSpan s) (span_closure f s) [] own)
    where
      go : (n k : ℕ) → HasRankOver s (vectors line M) own n → HasRankOver s [] own k → n ≤ k → n ≤ 2 → k ≤ 2 → (p : Place) × HasPlace s line M e p
      go zero k r o h a b = (inside, r)
      go (suc zero) zero r o h a b = absurd (omega arith)
      go (suc zero) (suc zero) r o h a b = (single, (r, o))
      go (suc zero) (suc (suc zero)) r o h a b = (exposed, (r, o))
      go (suc zero) (suc (suc (suc k))) r o h a b = absurd (omega arith)
      go (suc (suc zero)) k r o h a b = (free, r)
      go (suc (suc (suc n))) k r o h a b = absurd (omega arith)

  -- and no other
  pub place_is_unique : (p q : Place) → HasPlace s line M e p → HasPlace s line M e q → p ≡ q
  place_is_unique p q h k = go p q h k (rank_over_unique s (vectors line M) own (rank_at p) (rank_at q) (over p h) (over q k))
    where
      over : (p : Place) → HasPlace s line M e p → HasRankOver s (vectors line M) own (rank_at p)
      over inside h = h
      over single h = h.0
      over exposed h = h.0
      over free h = h

      go : (p q : Place) → HasPlace s line M e p → HasPlace s line M e q → rank_at p ≡ rank_at q → p ≡ q
      go inside inside h k z = refl
      go single single h k z = refl
      go exposed exposed h k z = refl
      go free free h k z = refl
      go single exposed h k z = absurd (let u = rank_over_unique s [] own 1 2 h.1 k.1 in omega arith)
      go exposed single h k z = absurd (let u = rank_over_unique s [] own 2 1 h.1 k.1 in omega arith)
      go p q h k z = absurd (omega arith)

  -- inside: within the span of M
  pub within_of_inside : HasPlace s line M e inside → Within s own (vectors line M)
  within_of_inside r = within_of_rank_zero s (vectors line M) own r

  pub inside_of_within : IsIndependent s (vectors line M) → Within s own (vectors line M) → HasPlace s line M e inside
  inside_of_within i h = has_rank_zero s (vectors line M) own i h

  -- free: independent together with M
  pub independent_of_free : HasPlace s line M e free → IsFree s line M e
  independent_of_free r = independent_of_full_rank s (vectors line M) own r

  pub free_of_independent : IsFree s line M e → HasPlace s line M e free
  free_of_independent i = has_full_rank s (vectors line M) own i

  -- single: spanned by one of its vectors, which is outside
  pub vector_of_single : HasPlace s line M e single → (a : V) × In a own × Misses s line M (a ∷ []) × Within s own (a ∷ [])
  vector_of_single (r, o) = go r.chosen o.chosen r.chosen_in r.independent o.spans r.length_chosen o.length_chosen
    where
      go : (C D : List V) → ((v : V) → In v C → In v own) → IsIndependent s (vectors line M ++ C) → Within s own D → length C ≡ 1 → length D ≡ 1 → (a : V) × In a own × Misses s line M (a ∷ []) × Within s own (a ∷ [])
      go [] D h i w x y = absurd (omega arith)
      go (a ∷ b ∷ C) D h i w x y = absurd (omega arith)
      go (a ∷ []) [] h i w x y = absurd (omega arith)
      go (a ∷ []) (b ∷ c ∷ D) h i w x y = absurd (omega arith)
      go (a ∷ []) (b ∷ []) h i w x y =
          let back : Within s (b ∷ []) (a ∷ []) = same_length_spans s (a ∷ []) (b ∷ []) (independent_right s (vectors line M) (a ∷ []) i) (within_trans s (a ∷ []) own (b ∷ []) (within_members s (a ∷ []) own h) w) (omega arith) in
          (a, h a (inl refl), i, within_trans s own (b ∷ []) (a ∷ []) w back)

  pub single_of_vector : (a : V) → In a own → Misses s line M (a ∷ []) → Within s own (a ∷ []) → HasPlace s line M e single
  single_of_vector a j i w =
      let only : (v : V) → In v (a ∷ []) → In v own = λ v k. elim k [ inl z ↦ subst (λ t. In t own) (sym z) j | inr z ↦ absurd z ] in (
        record { chosen = a ∷ []; chosen_in = only; independent = i; spans = within_right s own (vectors line M) (a ∷ []) w; length_chosen = refl },
        record { chosen = a ∷ []; chosen_in = only; independent = independent_right s (vectors line M) (a ∷ []) i; spans = w; length_chosen = refl },
      )

  -- a is a vector of the line outside, b the other one, in the span of M and a
  expose_by : (a b : V) → InSpan s own a → InSpan s own b → ¬ (InSpan s (a ∷ []) b) → Misses s line M (a ∷ []) → InSpan s (vectors line M ++ a ∷ []) b → IsExposed s line M e
  expose_by a b ha hb n i c =
      let r = span_split s (vectors line M) (a ∷ []) b c in
      let t : V = r.0 in
      let z : V = r.1 in
      let not_null : t ≢ null = λ q. n (subst (λ x. InSpan s (a ∷ []) x) (sym (r.4 ∙ ap (λ x. x ⊕ z) q ∙ null-plus f s z)) r.3) in
      let hz : InSpan s own z = through s (a ∷ []) own z (search (ha, placing)) r.3 in
      let ht : InSpan s own t = subst (λ x. InSpan s own x) (move f s b z t r.4) (span_minus f s own b z hb hz) in
      let k = line_combination_of_span s line M t r.2 in
      (t, a, k.0, expose s line M e t a k.0 (independent_left s (vectors line M) (a ∷ []) i) k.1 k.2 not_null ht ha (appended_is_outside s (vectors line M) a i))

  -- exposed: with a tip and an outer
  pub tip_of_exposed : HasPlace s line M e exposed → IsExposed s line M e
  tip_of_exposed (r, o) = go r.chosen r.chosen_in r.independent r.spans r.length_chosen (independent_of_full_rank s [] own o)
    where
      u : V
      u = (line e).0

      v : V
      v = (line e).1

      both : InSpan s own u × InSpan s own v
      both = (span_member f s own u (inl refl), span_member f s own v (inr (inl refl)))

      go : (C : List V) → ((x : V) → In x C → In x own) → IsIndependent s (vectors line M ++ C) → Within s own (vectors line M ++ C) → length C ≡ 1 → IsIndependent s own → IsExposed s line M e
      go [] h i w q j = absurd (omega arith)
      go (a ∷ b ∷ C) h i w q j = absurd (omega arith)
      go (a ∷ []) h i w q j = pick (h a (inl refl))
        where
          pick : In a own → IsExposed s line M e
          pick (inl z) = expose_by u v both.0 both.1 j.1.0 (subst (λ x. Misses s line M (x ∷ [])) z i) (subst (λ x. InSpan s (vectors line M ++ x ∷ []) v) z (w.each v (inr (inl refl))))
          pick (inr (inl z)) = expose_by v u both.1 both.0 (head_is_outside s u (v ∷ []) j) (subst (λ x. Misses s line M (x ∷ [])) z i) (subst (λ x. InSpan s (vectors line M ++ x ∷ []) u) z (w.each u (inl refl)))
          pick (inr (inr z)) = absurd z

  pub exposed_of_tip : (tip outer : V) (cs : List (K × K)) → Exposed s line M e tip outer cs → HasPlace s line M e exposed
  exposed_of_tip tip outer cs x = let r = place_of_a_line (exposed_base s line M e tip outer cs x) in go r.0 r.1
    where
      go : (p : Place) → HasPlace s line M e p → HasPlace s line M e exposed
      go inside h = absurd (exposed_not_inside s line M e tip outer cs x (within_of_inside h))
      go single h = absurd (let u = rank_over_unique s [] own 1 2 h.1 (has_full_rank s [] own (exposed_line_independent s line M e tip outer cs x)) in omega arith)
      go exposed h = h
      go free h = absurd (exposed_not_free s line M e tip outer cs x (independent_of_free h))

  -- a line of two independent vectors is not single
  pub place_of_two : IsIndependent s (vectors line M) → IsIndependent s own → Within s own (vectors line M) ⊎ (IsExposed s line M e ⊎ IsFree s line M e)
  place_of_two i j = let r = place_of_a_line i in go r.0 r.1
    where
      go : (p : Place) → HasPlace s line M e p → Within s own (vectors line M) ⊎ (IsExposed s line M e ⊎ IsFree s line M e)
      go inside h = inl (within_of_inside h)
      go single h = absurd (let u = rank_over_unique s [] own 1 2 h.1 (has_full_rank s [] own j) in omega arith)
      go exposed h = inr (inl (tip_of_exposed h))
      go free h = inr (inr (independent_of_free h))

  -- a line that is not free needs at most one vector beside M
  pub near_line : IsIndependent s (vectors line M) → ¬ (IsFree s line M e) → (x : V) × Within s own (vectors line M ++ x ∷ [])
  near_line i n = let r = place_of_a_line i in go r.0 r.1
    where
      go : (p : Place) → HasPlace s line M e p → (x : V) × Within s own (vectors line M ++ x ∷ [])
      go inside h = (null, within_left s own (vectors line M) (null ∷ []) (within_of_inside h))
      go single h = let r = vector_of_single h in (r.0, within_right s own (vectors line M) (r.0 ∷ []) r.3)
      go exposed h = let r = tip_of_exposed h in (r.1, exposed_within s line M e r.0 r.1 r.2 r.3)
      go free h = absurd (n (independent_of_free h))
