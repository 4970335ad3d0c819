-- Dividing a space by a point: spans, independence and ranks modulo the point are those with the point in front.
use Rattle.std.proofs.Common.{◌≡◌, ◌≢◌, ℕ, inl, inr, List, [], ◌∷◌, ◌++◌, map, length, refl, sym, ap, ap₂, ◌∙◌, subst, arith, append-nil}
use Rattle.std.specs.Prelude.{⊤}
use Rattle.std.proofs.lemmas.List.{length-map, map-append}
use Rattle.vector_spaces.proofs.Bases.{HasRankOver}
use Rattle.vector_spaces.proofs.Closure.{Spans, spans_front, spans_back}
use Rattle.vector_spaces.proofs.Independence.{IsIndependent, cons_outside, head_is_outside, independent_right, regroup}
use Rattle.vector_spaces.proofs.LinearMaps.{IsLinear, linear_span, linear_span_from, rank_along}
use Rattle.vector_spaces.proofs.Members.{In, In-map, In_map-from}
use Rattle.vector_spaces.proofs.Ranks.{rank, rank_same}
use Rattle.vector_spaces.proofs.Space.{Field, Space, linear, plus-minus}
use Rattle.vector_spaces.proofs.Span.{InSpan, span_closure}

-- W is V modulo the point p: `project` sends the multiples of p alone to null, and `lift` goes back
pub record Quotient {K V W : Type 0} {f : Field K} (s : Space f V) (t : Space f W) (p : V) : Type 0 where
  pub project : V → W
  pub lift : W → V
  pub is_linear : IsLinear s t project
  pub project-lift : (w : W) → project (lift w) ≡ w
  pub project-point : project p ≡ t.null
  pub only_multiples : (v : V) → project v ≡ t.null → (c : K) × (v ≡ s.◌·◌ c p)
  pub point≢null : p ≢ s.null

-- of a list that holds the images of A, the members of A that they come from
pub preimages : {V W : Type 0} (g : V → W) (A : List V) (ws : List W) → ((w : W) → In w ws → In w (map g A)) → (vs : List V) × ((v : V) → In v vs → In v A) × (map g vs ≡ ws)
preimages g A [] h = ([], λ v i. absurd i, refl)
preimages g A (w ∷ ws) h =
    let r = preimages g A ws (λ x i. h x (inr i)) in
    let o = In_map-from g w A (h w (inl refl)) in
    (o.0 ∷ r.0, λ v i. elim i [ inl e ↦ subst (λ x. In x A) (sym e) o.1 | inr j ↦ r.1 v j ], ap₂ (λ x xs. x ∷ xs) (sym o.2) r.2)

module _ {K V W : Type 0} {f : Field K} (s : Space f V) (t : Space f W) (p : V) (q : Quotient s t p) where
  infixl 65 ◌⊕◌
  infixl 70 ◌·◌
  open f use {minus}
  open s use {◌⊕◌, ◌·◌}

  -- a list lifted and projected is the same
  pub projects-lifts : (ws : List W) → map q.project (map q.lift ws) ≡ ws
  projects-lifts [] = refl
  projects-lifts (w ∷ ws) = ap₂ (λ x xs. x ∷ xs) (q.project-lift w) (projects-lifts ws)

  -- a vector is spanned by vs and the point exactly where its projection is spanned by the projections of vs
  pub span_to_quotient : (vs : List V) (x : V) → InSpan s (p ∷ vs) x → InSpan t (map q.project vs) (q.project x)
  span_to_quotient vs x h =
      let k : InSpan t (q.project p ∷ map q.project vs) (q.project x) = linear_span f s t q.project q.is_linear (p ∷ vs) x h in
      subst (λ y. InSpan t (map q.project vs) y) (sym (k.3 ∙ ap (λ z. t.◌⊕◌ (t.◌·◌ k.0 z) k.1) q.project-point ∙ drop_null f t k.0 k.1)) k.2
    where
      drop_null : {X : Type 0} (g : Field K) (u : Space g X) (c : K) (y : X) → u.◌⊕◌ (u.◌·◌ c u.null) y ≡ y
      drop_null g u c y = simp linear

  pub span_from_quotient : (vs : List V) (x : V) → InSpan t (map q.project vs) (q.project x) → InSpan s (p ∷ vs) x
  span_from_quotient vs x h =
      let r = linear_span_from f s t q.project q.is_linear vs (q.project x) h in
      let z : q.project (x ⊕ minus · r.0) ≡ t.null = q.is_linear.plus x (minus · r.0) ∙ ap (λ y. t.◌⊕◌ (q.project x) y) (q.is_linear.scale minus r.0 ∙ ap (λ y. t.◌·◌ minus y) r.2) ∙ plus-minus f t (q.project x) in
      let c = q.only_multiples (x ⊕ minus · r.0) z in
      (c.0, r.0, r.1, sym (ap (λ y. y ⊕ r.0) (sym c.1) ∙ back x r.0))
    where
      back : (u v : V) → (u ⊕ minus · v) ⊕ v ≡ u
      back u v = simp linear

  swap_front : (u v : V) (vs : List V) → IsIndependent s (u ∷ v ∷ vs) → IsIndependent s (v ∷ u ∷ vs)
  swap_front u v vs i = regroup s (u ∷ v ∷ vs) (v ∷ u ∷ vs) i (λ x k. elim k [ inl e ↦ inr (inl e) | inr j ↦ elim j [ inl e ↦ inl e | inr l ↦ inr (inr l) ] ]) (omega arith)

  -- vs and the point are independent exactly where the projections of vs are
  pub independent_to_quotient : (vs : List V) → IsIndependent s (p ∷ vs) → IsIndependent t (map q.project vs)
  independent_to_quotient [] i = tt
  independent_to_quotient (v ∷ vs) i =
      let j : IsIndependent s (v ∷ p ∷ vs) = swap_front p v vs i in
      cons_outside t (q.project v) (map q.project vs) (λ k. head_is_outside s v (p ∷ vs) j (span_from_quotient vs v k)) (independent_to_quotient vs (independent_right s (v ∷ []) (p ∷ vs) j))

  pub independent_from_quotient : (vs : List V) → IsIndependent t (map q.project vs) → IsIndependent s (p ∷ vs)
  independent_from_quotient [] i = (λ z. q.point≢null z, tt)
  independent_from_quotient (v ∷ vs) i =
      let j : IsIndependent s (p ∷ vs) = independent_from_quotient vs (independent_right t (q.project v ∷ []) (map q.project vs) i) in
      swap_front v p vs (cons_outside s v (p ∷ vs) (λ k. head_is_outside t (q.project v) (map q.project vs) i (span_to_quotient vs v k)) j)

  -- A has the same rank over us and the point as its projections over those of us
  pub rank_to_quotient : (us A : List V) (n : ℕ) → HasRankOver s (p ∷ us) A n → HasRankOver t (map q.project us) (map q.project A) n
  rank_to_quotient us A n r =
      let e : map q.project (us ++ r.chosen) ≡ map q.project us ++ map q.project r.chosen = map-append q.project us r.chosen in
      record {
        chosen = map q.project r.chosen;
        chosen_in = λ w i. let o = In_map-from q.project w r.chosen i in subst (λ x. In x (map q.project A)) (sym o.2) (In-map q.project o.0 A (r.chosen_in o.0 o.1));
        independent = subst (λ ws. IsIndependent t ws) e (independent_to_quotient (us ++ r.chosen) r.independent);
        spans = record {
          each = λ w i. let o = In_map-from q.project w A i in subst (λ x. InSpan t (map q.project us ++ map q.project r.chosen) x) (sym o.2)
              (subst (λ ws. InSpan t ws (q.project o.0)) e (span_to_quotient (us ++ r.chosen) o.0 (r.spans.each o.0 o.1)));
        };
        length_chosen = length-map r.chosen q.project ∙ r.length_chosen;
      }

  pub rank_from_quotient : (us A : List V) (n : ℕ) → HasRankOver t (map q.project us) (map q.project A) n → HasRankOver s (p ∷ us) A n
  rank_from_quotient us A n r =
      let o = preimages q.project A r.chosen r.chosen_in in
      let e : map q.project us ++ r.chosen ≡ map q.project (us ++ o.0) = sym (map-append q.project us o.0 ∙ ap (λ xs. map q.project us ++ xs) o.2) in
      record {
        chosen = o.0;
        chosen_in = o.1;
        independent = independent_from_quotient (us ++ o.0) (subst (λ ws. IsIndependent t ws) e r.independent);
        spans = record { each = λ v i. span_from_quotient (us ++ o.0) v (subst (λ ws. InSpan t ws (q.project v)) e (r.spans.each (q.project v) (In-map q.project v A i))) };
        length_chosen = sym (length-map o.0 q.project) ∙ ap length o.2 ∙ r.length_chosen;
      }

  front : (us : List V) → Spans V (InSpan s) (span_closure f s) (p ∷ us) (us ++ p ∷ [])
  front us x c = subst (λ vs. InSpan s (p ∷ vs) x) (append-nil us) (spans_back V (InSpan s) (span_closure f s) us p [] x c)

  back : (us : List V) → Spans V (InSpan s) (span_closure f s) (us ++ p ∷ []) (p ∷ us)
  back us x c = spans_front V (InSpan s) (span_closure f s) us p [] x (subst (λ vs. InSpan s (p ∷ vs) x) (sym (append-nil us)) c)

  -- the rank of any lists, also over a list that is not independent
  pub rank-quotient : (us vs : List V) → rank W (InSpan t) (span_closure f t) (map q.project us) (map q.project vs) ≡ rank V (InSpan s) (span_closure f s) (p ∷ us) vs
  rank-quotient us vs = sym (rank_along (InSpan s) (span_closure f s) (InSpan t) (span_closure f t) q.project (λ x. ⊤) (p ∷ [])
      (λ ws x h k c. span_to_quotient ws x (front ws x c))
      (λ ws x h k c. back ws x (span_from_quotient ws x c))
      us vs (λ v i. tt) (λ v i. tt)) ∙ rank_same V (InSpan s) (span_closure f s) (us ++ p ∷ []) (p ∷ us) vs (front us) (back us)
