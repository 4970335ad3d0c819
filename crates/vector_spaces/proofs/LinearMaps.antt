-- Linear maps: what they do to spans and combinations.
use Rattle.std.proofs.Common.{ℕ, zero, ◌≡◌, suc, List, [], ◌∷◌, ◌++◌, map, refl, sym, ap, ap₂, ◌∙◌, subst, inl, inr}
use Rattle.vector_spaces.proofs.Closure.{IsClosure}
use Rattle.vector_spaces.proofs.Combination.{combination, combination-cons, combination-none, combination-nil}
use Rattle.vector_spaces.proofs.Members.{In}
use Rattle.vector_spaces.proofs.Ranks.{rank, rank-nil, rank-inside, rank-outside}
use Rattle.vector_spaces.proofs.Space.{Field, Space, linear}
use Rattle.vector_spaces.proofs.Span.{InSpan}
use Rattle.vector_spaces.proofs.Tuples.{tuples, line, at}

-- T keeps sums and multiples
pub record IsLinear {K V W : Type 0} {f : Field K} (s : Space f V) (t : Space f W) (T : V → W) : Type 0 where
  pub plus : (u v : V) → T (s.◌⊕◌ u v) ≡ t.◌⊕◌ (T u) (T v)
  pub scale : (c : K) (v : V) → T (s.◌·◌ c v) ≡ t.◌·◌ c (T v)

-- two closures that agree along g, on what P holds of, give the same rank
pub rank_along : {V W : Type 0} (C : List V → V → Type 0) (m : IsClosure V C) (D : List W → W → Type 0) (n : IsClosure W D) (g : V → W) (P : V → Type 0) (base : List V)
    (to : (us : List V) (x : V) → ((v : V) → In v us → P v) → P x → C (us ++ base) x → D (map g us) (g x))
    (from : (us : List V) (x : V) → ((v : V) → In v us → P v) → P x → D (map g us) (g x) → C (us ++ base) x)
    (us sel : List V) → ((v : V) → In v us → P v) → ((v : V) → In v sel → P v) → rank V C m (us ++ base) sel ≡ rank W D n (map g us) (map g sel)
rank_along {V} {W} C m D n g P base to from us [] h k = rank-nil V C m (us ++ base) ∙ sym (rank-nil W D n (map g us))
rank_along {V} {W} C m D n g P base to from us (v ∷ sel) h k = go (m.decide (us ++ base) v)
    (rank_along C m D n g P base to from us sel h (λ x i. k x (inr i)))
    (rank_along C m D n g P base to from (v ∷ us) sel more (λ x i. k x (inr i)))
  where
    more : (x : V) → In x (v ∷ us) → P x
    more x (inl e) = subst P (sym e) (k v (inl refl))
    more x (inr i) = h x i

    go : Dec (C (us ++ base) v) → rank V C m (us ++ base) sel ≡ rank W D n (map g us) (map g sel) → rank V C m (v ∷ us ++ base) sel ≡ rank W D n (g v ∷ map g us) (map g sel) →
        rank V C m (us ++ base) (v ∷ sel) ≡ rank W D n (map g us) (g v ∷ map g sel)
    go (yes c) old new = rank-inside V C m (us ++ base) v sel c ∙ old ∙ sym (rank-inside W D n (map g us) (g v) (map g sel) (to us v h (k v (inl refl)) c))
    go (no c) old new = rank-outside V C m (us ++ base) v sel c ∙ ap suc new ∙ sym (rank-outside W D n (map g us) (g v) (map g sel) (λ e. c (from us v h (k v (inl refl)) e)))

module _ {K V W : Type 0} (f : Field K) (s : Space f V) (t : Space f W) (T : V → W) (lin : IsLinear s t T) where
  infixl 65 ◌⊞◌
  infixl 70 ◌⊠◌
  infixl 65 ◌⊕◌
  infixl 70 ◌·◌
  open f use {zero as o, one, minus, ◌⊞◌, ◌⊠◌, inv}
  open t use {◌⊕◌, ◌·◌}

  pub linear-null : T s.null ≡ t.null
  linear-null = ap T (sym (s.zero-scale s.null)) ∙ lin.scale o s.null ∙ t.zero-scale (T s.null)

  pub linear_span : (vs : List V) (x : V) → InSpan s vs x → InSpan t (map T vs) (T x)
  linear_span [] x h = ap T h ∙ linear-null
  linear_span (v ∷ vs) x h = (h.0, T h.1, linear_span vs h.1 h.2, ap T h.3 ∙ lin.plus (s.◌·◌ h.0 v) h.1 ∙ ap (λ y. y ⊕ T h.1) (lin.scale h.0 v))

  pub linear_span_from : (vs : List V) (y : W) → InSpan t (map T vs) y → (x : V) × InSpan s vs x × (T x ≡ y)
  linear_span_from [] y h = (s.null, refl, linear-null ∙ sym h)
  linear_span_from (v ∷ vs) y h = let r = linear_span_from vs h.1 h.2 in
      (s.◌⊕◌ (s.◌·◌ h.0 v) r.0, (h.0, r.0, r.1, refl), lin.plus (s.◌·◌ h.0 v) r.0 ∙ ap₂ (λ a b. a ⊕ b) (lin.scale h.0 v) r.2 ∙ sym h.3)

  pub linear-combination : (cs : List K) (vs : List V) → combination t cs (map T vs) ≡ T (combination s cs vs)
  linear-combination [] vs = simp combination-none (sym linear-null)
  linear-combination (c ∷ cs) [] = simp combination-nil (sym linear-null)
  linear-combination (c ∷ cs) (v ∷ vs) = combination-cons f t c cs (T v) (map T vs) ∙ ap (λ y. c · T v ⊕ y) (linear-combination cs vs)
      ∙ ap (λ y. y ⊕ T (combination s cs vs)) (sym (lin.scale c v)) ∙ sym (lin.plus (s.◌·◌ c v) (combination s cs vs)) ∙ ap T (sym (combination-cons f s c cs v vs))

  -- a map that is null on vs is null on their span
  pub linear_kills : (vs : List V) (x : V) → ((v : V) → In v vs → T v ≡ t.null) → InSpan s vs x → T x ≡ t.null
  linear_kills [] x k h = ap T h ∙ linear-null
  linear_kills (v ∷ vs) x k h = ap T h.3 ∙ lin.plus (s.◌·◌ h.0 v) h.1 ∙ ap₂ (λ a b. a ⊕ b) (lin.scale h.0 v ∙ ap (λ y. h.0 · y) (k v (inl refl))) (linear_kills vs h.1 (λ u i. k u (inr i)) h.2) ∙ simp linear

pub at-linear : {K : Type 0} (f : Field K) (d p : ℕ) → IsLinear (tuples f d) (line f) (at f d p)
at-linear f zero p = record { plus = λ u v. sym (f.add-zero f.zero); scale = λ c v. sym (f.mul-zero c) }
at-linear f (suc d) zero = record { plus = λ u v. refl; scale = λ c v. refl }
at-linear f (suc d) (suc p) = let r = at-linear f d p in record { plus = λ u v. r.plus u.1 v.1; scale = λ c v. r.scale c v.1 }
