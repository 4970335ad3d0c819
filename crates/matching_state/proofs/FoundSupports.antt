-- The support that is found line by line.
use Rattle.std.proofs.Common.{◌≡◌, Bool, IsTrue, ℕ, suc, ◌+◌, ◌-◌, ◌*◌, ◌<◌, ◌≤◌, ◌⊎◌, inl, inr, List, [], ◌∷◌, ◌++◌, length, map, take, drop, replicate, get_or, sym, ap, ap₂, ◌∙◌, subst, arith, All, drop-cons, take_all}
use Rattle.std.specs.Prelude.{slice_index, ◌↔◌}
use Rattle.std.specs.List.{Contains}
use Rattle.std.specs.List.Sorted.{IsStrictlyIncreasing}
use Rattle.std.proofs.Math.Decide.{dec_lt}
use Rattle.std.proofs.lemmas.List.{length-take-le, length-map, length_push, get_or-take, get_or_append_left, get_or_push, take-map, drop-map}
use Rattle.std.proofs.lemmas.List.Kept.{AllPairs-from_increasing}
use Rattle.vector_spaces.proofs.Members.{In, all-In, contains-In, In-contains, In-append, In-append_left, In-append_right}
use Rattle.linear_algebra.specs.Scalars.{Scalars}
use Rattle.matching_state.specs.Supports.{HasComponent, IsSupport}

-- both coordinates at an index are zero
abbrev pub IsZeroAt : Scalars → List ℕ → ℕ → Type 0
IsZeroAt S cs i = (slice_index cs (2 * i) ≡ S.zero) × (slice_index cs (2 * i + 1) ≡ S.zero)

-- which is what the two entries from there tell
pub zero_window : (S : Scalars) {X : Type 0} (f : X → ℕ) (xs : List X) (i : ℕ) → 2 * i + 1 < length xs →
    (map f (take (2 * i + 2 - 2 * i) (drop (2 * i) xs)) ≡ replicate (length (take (2 * i + 2 - 2 * i) (drop (2 * i) xs))) S.zero) ↔ IsZeroAt S (map f xs) i
zero_window S f xs i h = (
  λ e. let e' : a ∷ b ∷ [] ≡ S.zero ∷ S.zero ∷ [] = sym window ∙ e ∙ ap (λ n. replicate n S.zero) long in (ap (λ t. get_or t 0 0) e', ap (λ t. get_or t 1 0) e'),
  λ z. window ∙ ap₂ (λ x y. x ∷ y ∷ []) z.0 z.1 ∙ ap (λ n. replicate n S.zero) (sym long),
)
  where
    ys : List ℕ
    ys = map f xs

    a : ℕ
    a = get_or ys (2 * i) 0

    b : ℕ
    b = get_or ys (2 * i + 1) 0

    two : 2 * i + 2 - 2 * i ≡ 2
    two = omega arith

    ahead : drop (2 * i) ys ≡ a ∷ b ∷ drop (suc (suc (2 * i))) ys
    ahead =
        let l : length ys ≡ length xs = length-map xs f in
        let next : suc (2 * i) ≡ 2 * i + 1 = omega arith in
        drop-cons ys (2 * i) 0 (omega arith) ∙ ap (λ t. a ∷ t) (drop-cons ys (suc (2 * i)) 0 (omega arith)) ∙ ap (λ n. a ∷ get_or ys n 0 ∷ drop (suc (suc (2 * i))) ys) next

    window : map f (take (2 * i + 2 - 2 * i) (drop (2 * i) xs)) ≡ a ∷ b ∷ []
    window = sym (take-map f (2 * i + 2 - 2 * i) (drop (2 * i) xs)) ∙ ap₂ take two (sym (drop-map f (2 * i) xs) ∙ ahead)

    long : length (take (2 * i + 2 - 2 * i) (drop (2 * i) xs)) ≡ 2
    long = sym (length-map (take (2 * i + 2 - 2 * i) (drop (2 * i) xs)) f) ∙ ap length window

-- so a test of these entries tells it
pub zero_told : (S : Scalars) {X : Type 0} (f : X → ℕ) (xs : List X) (i : ℕ) (b : Bool) → 2 * i + 1 < length xs →
    IsTrue b ↔ (map f (take (2 * i + 2 - 2 * i) (drop (2 * i) xs)) ≡ replicate (length (take (2 * i + 2 - 2 * i) (drop (2 * i) xs)))
    S.zero) → IsTrue b ↔ IsZeroAt S (map f xs) i
zero_told S f xs i b h t = let w = zero_window S f xs i h in (λ k. w.0 (t.0 k), λ z. t.1 (w.1 z))

-- a list stays increasing with one above the others
increasing_push : (xs : List ℕ) (a : ℕ) → IsStrictlyIncreasing xs → All (λ m. m < a) xs → IsStrictlyIncreasing (xs ++ a ∷ [])
increasing_push xs a r b k l = go (dec_lt (k + 1) (length xs))
  where
    go : Dec (k + 1 < length xs) → slice_index (xs ++ a ∷ []) k < slice_index (xs ++ a ∷ []) (k + 1)
    go (yes h) =
        let e = get_or_append_left xs (a ∷ []) 0 k (omega arith) in
        let e' = get_or_append_left xs (a ∷ []) 0 (k + 1) h in
        let rise = r k h in
        omega arith
    go (no n) =
        let long = length_push xs a in
        let e = get_or_append_left xs (a ∷ []) 0 k (omega arith) in
        let e' = get_or_push xs a 0 (k + 1) (omega arith) in
        let below = b k 0 (omega arith) in
        omega arith

module _ (S : Scalars) (M cs : List ℕ) where
  pub support_none : (L : List ℕ) → L ≡ [] → IsSupport S [] cs L
  support_none L e = subst (IsSupport S [] cs) (sym e) (record {
    increasing = λ k h. absurd (omega arith);
    lines = λ m. ((λ c. absurd (let h = c.1 in omega arith)), (λ h. absurd (let w = h.within in omega arith)));
  })

  module _ (i : ℕ) (L : List ℕ) (h : i < length M) (rises : IsStrictlyIncreasing M) (r : IsSupport S (take i M) cs L) where
    long : length (take i M) ≡ i
    long = length-take-le i M (omega arith)

    longer : length (take (i + 1) M) ≡ i + 1
    longer = length-take-le (i + 1) M (omega arith)

    component_more : (m : ℕ) → HasComponent S (take i M) cs m → HasComponent S (take (i + 1) M) cs m
    component_more m k =
        let w = k.within in
        let e = long in
        let e' = longer in
        record { index = k.index; within = omega arith; line = get_or-take (i + 1) M k.index 0 (omega arith) ∙ sym (get_or-take i M k.index 0 (omega arith)) ∙ k.line; not_zero = k.not_zero }

    component_here : ¬ (IsZeroAt S cs i) → HasComponent S (take (i + 1) M) cs (slice_index M i)
    component_here n = let e' = longer in record { index = i; within = omega arith; line = get_or-take (i + 1) M i 0 (omega arith); not_zero = n }

    -- a component at a line up to i is one before, or at i
    component_split : (m : ℕ) → HasComponent S (take (i + 1) M) cs m → HasComponent S (take i M) cs m ⊎ ((m ≡ slice_index M i) × ¬ (IsZeroAt S cs i))
    component_split m k = go (dec_lt k.index i)
      where
        go : Dec (k.index < i) → HasComponent S (take i M) cs m ⊎ ((m ≡ slice_index M i) × ¬ (IsZeroAt S cs i))
        go (yes l) = let e = long in inl (record { index = k.index; within = omega arith; line = get_or-take i M k.index 0 l ∙ sym (get_or-take (i + 1) M k.index 0 (omega arith)) ∙ k.line; not_zero = k.not_zero })
        go (no l) =
            let w = k.within in
            let e' = longer in
            let last : k.index ≡ i = omega arith in
            inr (sym k.line ∙ get_or-take (i + 1) M k.index 0 (omega arith) ∙ ap (slice_index M) last, subst (λ j. ¬ (IsZeroAt S cs j)) last k.not_zero)

    pub support_below : All (λ m. m < slice_index M i) L
    support_below = all-In (λ m. m < slice_index M i) L (λ m j.
        let k = (r.lines m).0 (contains-In L m j) in
        let e = long in
        let w = k.within in
        subst (λ n. n < slice_index M i) (sym (get_or-take i M k.index 0 (omega arith)) ∙ k.line) (AllPairs-from_increasing M rises k.index i 0 (omega arith) h))

    pub support_below_line : (n : ℕ) → n ≡ slice_index M i → All (λ m. m < n) L
    support_below_line n e = subst (λ k. All (λ m. m < k) L) (sym e) support_below

    pub support_kept : (after : List ℕ) → after ≡ L → IsZeroAt S cs i → IsSupport S (take (i + 1) M) cs after
    support_kept after e z = subst (IsSupport S (take (i + 1) M) cs) (sym e) (record {
      increasing = r.increasing;
      lines = λ m. (
        (λ c. component_more m ((r.lines m).0 c)),
        (λ k. elim (component_split m k) [ inl k' ↦ (r.lines m).1 k' | inr n ↦ absurd (n.1 z) ]),
      );
    })

    pub support_pushed : ¬ (IsZeroAt S cs i) → IsSupport S (take (i + 1) M) cs (L ++ slice_index M i ∷ [])
    support_pushed n = record { increasing = increasing_push L (slice_index M i) r.increasing support_below; lines = λ m. (holds m, back m) }
      where
        a : ℕ
        a = slice_index M i

        holds : (m : ℕ) → Contains (L ++ a ∷ []) m → HasComponent S (take (i + 1) M) cs m
        holds m c = go (In-append m L (a ∷ []) (In-contains (L ++ a ∷ []) m c))
          where
            go : In m L ⊎ In m (a ∷ []) → HasComponent S (take (i + 1) M) cs m
            go (inl j) = component_more m ((r.lines m).0 (contains-In L m j))
            go (inr (inl e)) = subst (HasComponent S (take (i + 1) M) cs) (sym e) (component_here n)
            go (inr (inr e)) = absurd e

        back : (m : ℕ) → HasComponent S (take (i + 1) M) cs m → Contains (L ++ a ∷ []) m
        back m k = contains-In (L ++ a ∷ []) m (go (component_split m k))
          where
            go : HasComponent S (take i M) cs m ⊎ ((m ≡ a) × ¬ (IsZeroAt S cs i)) → In m (L ++ a ∷ [])
            go (inl k') = In-append_left m L (a ∷ []) (In-contains L m ((r.lines m).1 k'))
            go (inr e) = In-append_right m L (a ∷ []) (inl e.0)

    -- L is written with the line at i behind
    pub support_written : (pushed after : List ℕ) (n : ℕ) → after ≡ pushed → pushed ≡ L ++ n ∷ [] → n ≡ slice_index M i →
        ¬ (IsZeroAt S cs i) → IsSupport S (take (i + 1) M) cs after
    support_written pushed after n e e' is z = subst (IsSupport S (take (i + 1) M) cs) (sym (e ∙ e' ∙ ap (λ m. L ++ m ∷ []) is)) (support_pushed z)

  pub support_whole : (i : ℕ) (L : List ℕ) → length M ≤ i → IsSupport S (take i M) cs L → IsSupport S M cs L
  support_whole i L l r = subst (λ N. IsSupport S N cs L) (take_all i M l) r
