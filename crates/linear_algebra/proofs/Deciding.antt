-- The test of independence that tries all coefficients decides independence, of any lists and for any scalars.
use Rattle.std.proofs.Common.{◌≡◌, ℕ, zero, suc, ◌+◌, ◌<◌, ◌≤◌, inl, inr, List, [], ◌∷◌, length, map, refl, sym, ap, subst, arith, Bool, true, false, not, ◌&&◌, ◌||◌}
use Rattle.std.specs.Bool.{Decides}
use Rattle.std.specs.List.{list_all, range_with_len}
use Rattle.std.specs.Str.{bytes_eq}
use Rattle.std.proofs.Math.Decide.{ℕ_discrete}
use Rattle.std.proofs.lemmas.Bool.{false≢true}
use Rattle.std.proofs.lemmas.Bool.Decides.{Decides-and, Decides-like}
use Rattle.std.proofs.lemmas.Slice.Eq.{bytes_eq-Decides}
use Rattle.std.proofs.lemmas.List.Elements.{All-nil, All-cons}
use Rattle.vector_spaces.proofs.Members.{In, In-map, In_map-from, In-flat_map, In_flat_map-from}
use Rattle.linear_algebra.specs.Scalars.{Scalars, IsScalar}
use Rattle.linear_algebra.specs.Vectors.{IsVector, zero_vector}
use Rattle.linear_algebra.specs.Spans.{combination, IsIndependent}
use Rattle.linear_algebra.specs.Ranks.{scalar_lists, is_independent}
use Rattle.linear_algebra.proofs.Coordinates.{IsVector-head, IsVector-tail}

In-range : (c a n : ℕ) → a ≤ c → c < a + n → In c (range_with_len a n)
In-range c a zero h k = absurd (omega arith)
In-range c a (suc n) h k = elim (ℕ_discrete c a) [ yes e ↦ inl e | no d ↦ inr (In-range c (a + 1) n (omega arith) (omega arith)) ]

In_range-from : (c a n : ℕ) → In c (range_with_len a n) → c < a + n
In_range-from c a zero i = absurd i
In_range-from c a (suc n) (inl e) = omega arith
In_range-from c a (suc n) (inr i) = let h = In_range-from c (a + 1) n i in omega arith

decides_implies : {A B : Type 0} (a b : Bool) → Decides a A → Decides b B → Decides (not a || b) (A → B)
decides_implies true b h k = (λ e x. k.0 e, λ f. k.1 (f (h.0 refl)))
decides_implies false b h k = (λ e x. absurd (false≢true (h.1 x)), λ f. refl)

decides_all : {X : Type 0} (p : X → Bool) (P : X → Type 0) (xs : List X) → ((x : X) → Decides (p x) (P x)) → Decides (list_all p xs) ((x : X) → In x xs → P x)
decides_all p P [] h = (λ e x i. absurd i, λ f. refl)
decides_all p P (y ∷ xs) h = Decides-like (p y && list_all p xs)
    (λ k x i. elim i [ inl e ↦ subst P (sym e) k.0 | inr j ↦ k.1 x j ])
    (λ f. (f y (inl refl), λ x i. f x (inr i)))
    (Decides-and (p y) (list_all p xs) (h y) (decides_all p P xs h))

module _ (S : Scalars) where
  -- the lists that are tried are the coefficients, all of them
  pub In-scalar_lists : (n : ℕ) (cs : List ℕ) → IsVector S n cs → In cs (scalar_lists S n)
  unfolding scalar_lists
  In-scalar_lists zero [] h = inl refl
  In-scalar_lists zero (c ∷ cs) h = absurd (let e = h.length_is in omega arith)
  In-scalar_lists (suc n) [] h = absurd (let e = h.length_is in omega arith)
  In-scalar_lists (suc n) (c ∷ cs) h = In-flat_map (λ a. map (λ ds. a ∷ ds) (scalar_lists S n)) (range_with_len 0 S.order) c (c ∷ cs)
      (In-range c 0 S.order (omega arith) (let k = IsVector-head S n c cs h in omega arith))
      (In-map (λ ds. c ∷ ds) cs (scalar_lists S n) (In-scalar_lists n cs (IsVector-tail S n c cs h)))

  pub In_scalar_lists-from : (n : ℕ) (cs : List ℕ) → In cs (scalar_lists S n) → IsVector S n cs
  unfolding scalar_lists
  In_scalar_lists-from zero [] i = record { length_is = refl; entries = All-nil (IsScalar S) }
  In_scalar_lists-from zero (c ∷ cs) (inl e) = absurd (cc)
  In_scalar_lists-from zero (c ∷ cs) (inr i) = absurd i
  In_scalar_lists-from (suc n) cs i =
      let c = In_flat_map-from (λ a. map (λ ds. a ∷ ds) (scalar_lists S n)) (range_with_len 0 S.order) cs i in
      let r = In_map-from (λ ds. c.0 ∷ ds) cs (scalar_lists S n) c.2 in
      let h = In_scalar_lists-from n r.0 r.1 in
      let small : IsScalar S c.0 = (let k = In_range-from c.0 0 S.order c.1 in omega arith) in
      subst (IsVector S (suc n)) (sym r.2) (record { length_is = ap suc h.length_is; entries = All-cons (IsScalar S) c.0 r.0 small h.entries })

  -- whether cs is no relation of vs, or zeros
  abbrev trivial : ℕ → List (List ℕ) → List ℕ → Bool
  trivial d vs cs = not (bytes_eq (combination S d cs vs) (zero_vector S d)) || bytes_eq cs (zero_vector S (length vs))

  pub is_independent-decides : (d : ℕ) (vs : List (List ℕ)) → Decides (is_independent S d vs) (IsIndependent S d vs)
  unfolding is_independent
  is_independent-decides d vs = Decides-like (list_all (trivial d vs) (scalar_lists S (length vs)))
      (λ h cs c. h cs (In-scalar_lists (length vs) cs c.one_each) c.gives)
      (λ h cs i e. h cs (record { one_each = In_scalar_lists-from (length vs) cs i; gives = e }))
      (decides_all (trivial d vs) (λ cs. combination S d cs vs ≡ zero_vector S d → cs ≡ zero_vector S (length vs)) (scalar_lists S (length vs))
      (λ cs. decides_implies _ _ (bytes_eq-Decides (combination S d cs vs) (zero_vector S d)) (bytes_eq-Decides cs (zero_vector S (length vs)))))

  -- a list is independent or not
  pub independent_or_not : (d : ℕ) (vs : List (List ℕ)) → Dec (IsIndependent S d vs)
  independent_or_not d vs = go (is_independent S d vs) (is_independent-decides d vs)
    where
      go : (b : Bool) → Decides b (IsIndependent S d vs) → Dec (IsIndependent S d vs)
      go true h = yes (h.0 refl)
      go false h = no (λ i. false≢true (h.1 i))
