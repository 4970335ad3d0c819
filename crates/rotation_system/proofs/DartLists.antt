-- A dart put into a list, in its order or from that dart on.
use Rattle.std.proofs.Common.{◌≡◌, ◌≢◌, ℕ, zero, suc, ◌+◌, ◌<◌, ◌≤◌, ◌⊎◌, inl, inr, List, [], ◌∷◌, ◌++◌, None, Option, Some, length, get_or, take, drop, ◌-◌, refl, sym, ap, ap₂, subst, ◌∙◌, arith, add-one, append_assoc}
use Rattle.std.specs.Prelude.{slice_get}
use Rattle.std.proofs.lemmas.List.{append-nil, take_more, take-append-drop}
use Rattle.std.proofs.lemmas.Option.{slice_get-get_or}
use Rattle.vector_spaces.proofs.Members.{In, In-append, In-append_left, In-append_right, In-get_or}
use Rattle.edge_lists.specs.Occurrences.{count}
use Rattle.edge_lists.proofs.Occurrences.{count-nil, count-other}
use Rattle.rotation_system.specs.RotationSystems.{BeginsWithLeast}
use Rattle.rotation_system.specs.DartPlaces.{AreTurned, IsPlace, PutAt}
use Rattle.rotation_system.specs.PlacedDarts.{IsAfter, IsPut}

-- what stands at no index stands nowhere
pub none_counted : (d : ℕ) (w : List ℕ) → ((k : ℕ) → k < length w → get_or w k 0 ≢ d) → count d w ≡ 0
none_counted d [] h = count-nil d
none_counted d (x ∷ w) h = count-other d x w (h 0 (omega arith)) ∙ none_counted d w (λ k l. h (suc k) (omega arith))

split_suc : {X : Type 0} (z : X) (w : List X) (j : ℕ) → j < length w → w ≡ take j w ++ get_or w j z ∷ drop (suc j) w
split_suc z [] j l = absurd (omega arith)
split_suc z (x ∷ w) zero l = refl
split_suc z (x ∷ w) (suc j) l = ap (λ t. x ∷ t) (split_suc z w j (omega arith))

pub split_at_index : {X : Type 0} (z : X) (w : List X) (j : ℕ) → j < length w → w ≡ take j w ++ get_or w j z ∷ drop (j + 1) w
split_at_index z w j l = split_suc z w j l ∙ ap (λ k. take j w ++ get_or w j z ∷ drop k w) (sym (add-one j))

pub last_place : (w : List ℕ) → IsPlace w (slice_get w (length w - 1))
last_place [] = refl
last_place (x ∷ w) = let q : length (x ∷ w) - 1 ≡ length w = omega arith in subst (λ k. IsPlace (x ∷ w) (slice_get (x ∷ w) k)) (sym q)
    (subst (IsPlace (x ∷ w)) (sym (slice_get-get_or (x ∷ w) (length w) 0 (omega arith))) (In-get_or (x ∷ w) (length w) 0 (omega arith)))

front_of : (w : List ℕ) (j p : ℕ) → j < length w → get_or w j 0 ≡ p → take (j + 1) w ≡ take j w ++ p ∷ []
front_of w j p l q = take_more w j 0 l ∙ ap (λ z. take j w ++ z ∷ []) q

pub put_between : (place : Option ℕ) (x : ℕ) (w : List ℕ) (i : ℕ) → IsAfter w place i → 0 < i → IsPut place x w (take i w ++ x ∷ drop i w)
put_between None x w i h l = absurd (omega arith)
put_between (Some p) x w i (j, k, q, r) l = (
  take j w,
  drop (j + 1) w,
  subst (λ z. w ≡ take j w ++ z ∷ drop (j + 1) w) q (split_at_index 0 w j k),
  inl (ap (λ n. take n w ++ x ∷ drop n w) r ∙ ap (λ t. t ++ x ∷ drop (j + 1) w) (front_of w j p k q)
      ∙ append_assoc (take j w) (p ∷ []) (x ∷ drop (j + 1) w)),
)

pub put_ahead : (place : Option ℕ) (x : ℕ) (w : List ℕ) (i : ℕ) → IsPlace w place → IsAfter w place i
    → IsPut place x w (x ∷ drop i w ++ take i w)
put_ahead None x w i h k = (h, ap₂ (λ n v. x ∷ drop n v ++ take n v) k h)
put_ahead (Some p) x w i h (j, k, q, r) = (
  take j w,
  drop (j + 1) w,
  subst (λ z. w ≡ take j w ++ z ∷ drop (j + 1) w) q (split_at_index 0 w j k),
  inr (ap (λ n. x ∷ drop n w ++ take n w) r ∙ ap (λ t. x ∷ drop (j + 1) w ++ t) (front_of w j p k q)),
)

in_parts : (y i : ℕ) (w : List ℕ) → In y (take i w) ⊎ In y (drop i w) → In y w
in_parts y i w (inl h) = subst (In y) (take-append-drop i w) (In-append_left y (take i w) (drop i w) h)
in_parts y i w (inr h) = subst (In y) (take-append-drop i w) (In-append_right y (take i w) (drop i w) h)

pub least_between : (w : List ℕ) (i x : ℕ) → BeginsWithLeast w → 0 < i → i ≤ length w → get_or w 0 0 < x
    → BeginsWithLeast (take i w ++ x ∷ drop i w)
least_between [] i x h l m k = absurd (omega arith)
least_between (d ∷ w) zero x h l m k = absurd (omega arith)
least_between (d ∷ w) (suc i) x h l m k = λ y a. elim (In-append y (take i w) (x ∷ drop i w) a) [
  | inl b ↦ h y (in_parts y i w (inl b))
  | inr b ↦ right y b
]
  where
    right : (y : ℕ) → In y (x ∷ drop i w) → d ≤ y
    right y (inl q) = omega (arith, q, k)
    right y (inr b) = h y (in_parts y i w (inr b))

least_all : (w : List ℕ) (x : ℕ) → BeginsWithLeast w → x ≤ get_or w 0 0 → (y : ℕ) → In y w → x ≤ y
least_all [] x h l y a = absurd a
least_all (d ∷ w) x h l y (inl q) = omega (arith, q, l)
least_all (d ∷ w) x h l y (inr a) = omega (arith, h y a, l)

least_under : (w : List ℕ) (i x : ℕ) → BeginsWithLeast w → x ≤ get_or w 0 0 → BeginsWithLeast (x ∷ drop i w ++ take i w)
least_under w i x h l y a = least_all w x h l y (in_parts y i w (elim (In-append y (drop i w) (take i w) a)
    [ inl b ↦ inr b | inr b ↦ inl b ]))

pub least_ahead : (place : Option ℕ) (w : List ℕ) (i x : ℕ) → IsPlace w place → IsAfter w place i → BeginsWithLeast w
    → (0 < i → x ≤ get_or w 0 0) → BeginsWithLeast (x ∷ drop i w ++ take i w)
least_ahead None w i x h k m l = subst (λ v. BeginsWithLeast (x ∷ drop i v ++ take i v)) (sym h)
    (subst (λ n. BeginsWithLeast (x ∷ drop n [] ++ take n [])) (sym k) (λ y a. absurd a))
least_ahead (Some p) w i x h (j, a, q, r) m l = least_under w i x m (l (omega arith))

-- a dart put into a list stands there, and so do those that stood there
pub put_new : (place : Option ℕ) (x : ℕ) (w w' : List ℕ) → IsPut place x w w' → In x w'
put_new None x w w' h = subst (In x) (sym h.1) (inl refl)
put_new (Some p) x w w' (u, v, q, inl r) = subst (In x) (sym r) (In-append_right x u (p ∷ x ∷ v) (inr (inl refl)))
put_new (Some p) x w w' (u, v, q, inr r) = subst (In x) (sym r) (inl refl)

pub put_old : (place : Option ℕ) (x : ℕ) (w w' : List ℕ) → IsPut place x w w' → (y : ℕ) → In y w → In y w'
put_old None x w w' h y a = absurd (subst (In y) h.0 a)
put_old (Some p) x w w' (u, v, q, r) y a = go r (In-append y u (p ∷ v) (subst (In y) q a))
  where
    go : (w' ≡ u ++ p ∷ x ∷ v) ⊎ (w' ≡ x ∷ v ++ (u ++ p ∷ [])) → In y u ⊎ In y (p ∷ v) → In y w'
    go (inl r) (inl b) = subst (In y) (sym r) (In-append_left y u (p ∷ x ∷ v) b)
    go (inl r) (inr (inl b)) = subst (In y) (sym r) (In-append_right y u (p ∷ x ∷ v) (inl b))
    go (inl r) (inr (inr b)) = subst (In y) (sym r) (In-append_right y u (p ∷ x ∷ v) (inr (inr b)))
    go (inr r) (inl b) = subst (In y) (sym r) (inr (In-append_right y v (u ++ p ∷ []) (In-append_left y u (p ∷ []) b)))
    go (inr r) (inr (inl b)) = subst (In y) (sym r) (inr (In-append_right y v (u ++ p ∷ []) (In-append_right y u (p ∷ []) (inl b))))
    go (inr r) (inr (inr b)) = subst (In y) (sym r) (inr (In-append_left y v (u ++ p ∷ []) b))

pub put_at : (place : Option ℕ) (x : ℕ) (w w' : List ℕ) → IsPut place x w w' → PutAt place x w w'
put_at None x w w' h = h
put_at (Some p) x w w' (u, v, q, r) = record { front = u; back = v; before = q; after = turned r }
  where
    turned : (w' ≡ u ++ p ∷ x ∷ v) ⊎ (w' ≡ x ∷ v ++ (u ++ p ∷ [])) → AreTurned (u ++ p ∷ x ∷ v) w'
    turned (inl e) = record { front = []; back = u ++ p ∷ x ∷ v; before = refl; after = e ∙ sym (append-nil (u ++ p ∷ x ∷ v)) }
    turned (inr e) = record { front = u ++ p ∷ []; back = x ∷ v; before = sym (append_assoc u (p ∷ []) (x ∷ v)); after = e }

-- the darts of the code, where the dart comes between, or ahead
after_within : (place : Option ℕ) (w : List ℕ) (i : ℕ) → IsAfter w place i → i ≤ length w
after_within None w i h = omega arith
after_within (Some p) w i (j, k, q, r) = omega arith

pub index_within : (place : Option ℕ) (w s : List ℕ) (i : ℕ) → s ≡ w → IsAfter w place i → i ≤ length s
index_within place w s i q h = omega (arith, ap length q, after_within place w i h)

after_positive : (place : Option ℕ) (w : List ℕ) (i : ℕ) → IsPlace w place → IsAfter w place i → 0 < length w → 0 < i
after_positive None w i h k l = absurd (omega (arith, ap length h, l))
after_positive (Some p) w i h (j, k, q, r) l = omega arith

module _ (place : Option ℕ) (x : ℕ) (w s : List ℕ) (i : ℕ) (front back d : List ℕ) (same : s ≡ w) (is : IsPlace w place)
    (at : IsAfter w place i) (least : BeginsWithLeast w) (f : front ≡ take i s) (b : back ≡ drop i s) where
  front_is : front ≡ take i w
  front_is = f ∙ ap (take i) same

  back_is : back ≡ drop i w
  back_is = b ∙ ap (drop i) same

  pub between_put : d ≡ front ++ x ∷ back → (0 < length s) × (get_or s 0 0 < x) → IsPut place x w d
  between_put q l = subst (IsPut place x w) (sym (q ∙ ap₂ (λ m n. m ++ x ∷ n) front_is back_is))
      (put_between place x w i at (after_positive place w i is at (omega (arith, l.0, ap length same))))

  pub between_least : d ≡ front ++ x ∷ back → (0 < length s) × (get_or s 0 0 < x) → BeginsWithLeast d
  between_least q l = subst BeginsWithLeast (sym (q ∙ ap₂ (λ m n. m ++ x ∷ n) front_is back_is))
      (least_between w i x least (after_positive place w i is at (omega (arith, l.0, ap length same))) (after_within place w i at)
      (subst (λ t. get_or t 0 0 < x) same l.1))

  pub ahead_put : d ≡ x ∷ back ++ front → IsPut place x w d
  ahead_put q = subst (IsPut place x w) (sym (q ∙ ap₂ (λ m n. x ∷ m ++ n) back_is front_is)) (put_ahead place x w i is at)

  pub ahead_least : d ≡ x ∷ back ++ front → ¬ ((0 < length s) × (get_or s 0 0 < x)) → BeginsWithLeast d
  ahead_least q n = subst BeginsWithLeast (sym (q ∙ ap₂ (λ m n. x ∷ m ++ n) back_is front_is)) (least_ahead place w i x is at least first)
    where
      first : 0 < i → x ≤ get_or w 0 0
      first l =
          let k : 0 < length s = omega (arith, l, after_within place w i at, ap length same) in
          let m : ¬ (get_or w 0 0 < x) = λ a. n (k, subst (λ t. get_or t 0 0 < x) (sym same) a) in
          omega arith
