-- Lists of numbers in a set that keeps the order in which they came.
use Rattle.std.proofs.Common.{◌≡◌, ℕ, zero, suc, ◌<◌, List, [], ◌∷◌, ◌++◌, Some, Bool, true, false, map, length, get_or, slice_get, if◌then◌else◌, refl, sym, ap, subst, ◌∙◌, arith}
use Rattle.std.specs.Prelude.{nat_eq}
use Rattle.std.specs.List.{IsDistinct, list_any}
use Rattle.std.specs.Cmp.Lexicographic.{pointwise, same_text, other_text}
use Rattle.std.proofs.lemmas.List.{length-map, length_push, get_or-map, get_or_append_left, map-append}
use Rattle.std.proofs.lemmas.List.Elements.{All-from_recursion}
use Rattle.std.proofs.lemmas.Option.{get_or_from_slice_get}
use Rattle.matching_state.specs.Classes.{AreDifferent, KeepsNumbers}

module _ {K : Type 0} (f : K → List ℕ) where
  abbrev eq : K → K → Bool
  eq x y = pointwise nat_eq (f x) (f y)

  false_not_same : (x y : K) → eq x y ≡ false → f x ≡ f y → ⊥
  false_not_same x y t e = other_text (f x) (f y) (sym t) e

  pub distinct_different : (ks : List K) → IsDistinct eq ks → AreDifferent (map f ks)
  unfolding IsDistinct
  distinct_different [] h i j l m e = absurd (omega arith)
  distinct_different (k ∷ ks) h zero zero l m e = refl
  distinct_different (k ∷ ks) h zero (suc j) l m e =
      let n = length-map ks f in
      let there = All-from_recursion (λ y. eq k y ≡ false) ks h.0 j k (omega arith) in
      absurd (false_not_same k (get_or ks j k) there (e ∙ get_or-map f ks j k [] (omega arith)))
  distinct_different (k ∷ ks) h (suc i) zero l m e =
      let n = length-map ks f in
      let there = All-from_recursion (λ y. eq k y ≡ false) ks h.0 i k (omega arith) in
      absurd (false_not_same k (get_or ks i k) there (sym e ∙ get_or-map f ks i k [] (omega arith)))
  distinct_different (k ∷ ks) h (suc i) (suc j) l m e = ap suc (distinct_different ks h.1 i j (omega arith) (omega arith) e)

  -- the keys after one is put in
  pub keeps_inserted : (ks : List K) (k : K) (after : List K) → after ≡ (if list_any (eq k) ks then ks else ks ++ k ∷ []) → KeepsNumbers (map f ks) (map f after)
  keeps_inserted ks k after e = go (list_any (eq k) ks) refl
    where
      go : (b : Bool) → list_any (eq k) ks ≡ b → KeepsNumbers (map f ks) (map f after)
      go true t = subst (λ xs. KeepsNumbers (map f ks) (map f xs)) (sym (e ∙ ap (λ b. if b then ks else ks ++ k ∷ []) t)) (record { longer = omega arith; same = λ i l. refl })
      go false t = subst (λ xs. KeepsNumbers (map f ks) (map f xs)) (sym (e ∙ ap (λ b. if b then ks else ks ++ k ∷ []) t)) (record {
        longer = let a = length-map ks f in let b = length-map (ks ++ k ∷ []) f in let c = length_push ks k in omega arith;
        same = λ i l. ap (λ xs. get_or xs i []) (map-append f ks (k ∷ [])) ∙ get_or_append_left (map f ks) (f k ∷ []) [] i l;
      })

  -- what stands at the number
  pub number_found : (ks : List K) (k v : K) (n : ℕ) → n < length ks → slice_get ks n ≡ Some k → eq v k ≡ true → get_or (map f ks) n [] ≡ f v
  number_found ks k v n l e t = get_or-map f ks n k [] l ∙ ap f (get_or_from_slice_get ks n k k e) ∙ sym (same_text (f v) (f k) (sym t))
